use Rattle.std.specs.Option.{option_copied}
use Rattle.std.proofs.Common.{rules, sym, ◌∙◌, ap, subst}
use Rattle.ab_norm.specs.ab_store.specs.Naming.{NodeIsTyped, HeadIsTyped}
use Rattle.ab_logic.specs.Worlds.{IsKeptBlock}
use Rattle.ab_alternatives.proofs.Kept.{kept_block}
use Rattle.ab_alternatives.proofs.atoms.defined_as.Goals as goal

pub block-requires-clause-predicate : goal.block-requires-clause-predicate
block-requires-clause-predicate c =
    let types = c.args.world.now.types in
    subst (HeadIsTyped types) c.in-Const.is (subst (NodeIsTyped types) c.in-Spine.is (c.view.ensures.typed types c.requires.world.typed))

pub returns-clause-held : goal.returns-clause-held
returns-clause-held c =
    let types = c.args.world.now.types in
    record {
      predicate = subst (HeadIsTyped types) c.in-Const.is (subst (NodeIsTyped types) c.in-Spine.is (c.view.ensures.typed types c.requires.world.typed));
      arguments = search rules;
      block = subst (IsKeptBlock types c.args.world.now.store) (sym c.in_ok-copy_block.ensures)
          (kept_block types c.args.world.now.store c.in-Const.predicate c.args.world.now.additions c.in-Some.block.now c.requires.world.additions (sym c.block.ensures.kept ∙ ap option_copied c.in-Some.is));
    }
