use Rattle.std.proofs.Common.{[], refl}
use Rattle.ab_unify.proofs.Growth.{grows_none}
use Rattle.ab_consequences.specs.Leading.{met}
use Rattle.ab_uses.specs.declared.stage.Stage.TheVariants.{Antecedent}
use Rattle.ab_uses.proofs.Moved.{antecedent_goes, one_more_stage}
use Rattle.ab_uses.proofs.one_part.take_antecedent.Goals as goal

pub returns : goal.returns
returns c = record {
  goes =
      antecedent_goes c.args.types.now c.args.store.now c.args.made.now (record { cells = c.args.made.now.cells; antecedents = c.push.new.self; result = c.sides_of-sides.result.right; stages = c.push-2.new.self }) c.sides_of-sides.result.left c.requires.store c.requires.under_way c.requires.front
      refl c.in_ok-push.ensures.items c.in_ok-push-2.ensures.items c.sides_of-sides.ensures.left_held c.sides_of-sides.ensures.right_held (c.sides_of-sides.ensures.left c.args.types.now) (c.sides_of-sides.ensures.right c.args.types.now) [] [];
  stages =
      one_more_stage c.args.types.now c.args.types.now c.args.store.now c.args.store.now (grows_none c.args.types.now c.args.store.now c.requires.store) c.args.made.now
      c.push-2.new.self.items Antecedent met c.requires.under_way.stages c.in_ok-push-2.ensures.items refl;
}
