use Rattle.std.specs.List.{All}
use Rattle.std.specs.Option.{option_map}
use Rattle.std.proofs.Common.{◌≡◌, ◌+◌, None, map, take, drop, get_or, arith, sym, ap, ◌∙◌, subst}
use Rattle.std.proofs.lemmas.List.{map_more, take_all}
use Rattle.std.proofs.lemmas.List.Elements.{All-more, All-push}
use Rattle.ab_store.specs.ab_types.specs.declared.ids.ConstId.{ConstId}
use Rattle.ab_typing.specs.DefinitionReadings.{name_of}
use Rattle.ab_formulas.specs.Declarations.{block_in}
use Rattle.ab_logic.specs.Additions.{block_kept}
use Rattle.ab_logic.specs.NewDefinitions.{AreNew}
use Rattle.ab_logic.specs.Worlds.{declarations_of, definition_of}
use Rattle.ab_formulas.proofs.Firsts.{none_copied, some_mapped, mapped_split}
use Rattle.ab_logic.proofs.world.World.first_defined.Goals as goal

pub loop-predicate-init : goal.loop-predicate-init
loop-predicate-init c = record { kept = λ k d l. absurd (omega (arith, l)); new = λ k d l. absurd (omega (arith, l)) }

pub loop-predicate-preserved : goal.loop-predicate-preserved
loop-predicate-preserved c =
    let w = c.args.self.now in
    let ps = c.args.predicates.now in
    let i = c.loop-predicate.predicate-index in
    let d : ConstId = record { 0 = 0 } in
    let none = none_copied c.block.result (sym c.is_some.ensures ∙ c.if-is_some.false) in
    let kept : block_kept w.additions (get_or ps i d) ≡ None = sym c.block.ensures.kept ∙ none in
    let new : block_in (declarations_of w) (name_of w.types (get_or ps i d)) ≡ None = sym c.block.ensures.reads ∙ ap (option_map (definition_of w)) none in
    record {
      kept = All-more (λ p. block_kept w.additions p ≡ None) ps i d c.loop-predicate-test.true c.loop-predicate.invariant.kept kept;
      new =
          subst (AreNew (declarations_of w)) (sym (map_more (name_of w.types) ps i d c.loop-predicate-test.true))
          (All-push (λ p. block_in (declarations_of w) p ≡ None) (map (name_of w.types) (take i ps)) (name_of w.types (get_or ps i d)) c.loop-predicate.invariant.new new);
    }

pub returns-clause-none : goal.returns-clause-none
returns-clause-none c = λ e.
    subst (All (λ p. block_kept c.args.self.now.additions p ≡ None)) (take_all c.loop-predicate.predicate-index c.args.predicates.now c.loop-predicate-test.false) c.loop-predicate.invariant.kept

pub returns-clause-new : goal.returns-clause-new
returns-clause-new c = λ e.
    subst (λ ps. AreNew (declarations_of c.args.self.now) (map (name_of c.args.self.now.types) ps)) (take_all c.loop-predicate.predicate-index c.args.predicates.now c.loop-predicate-test.false) c.loop-predicate.invariant.new

pub returns-then-is_some-clause-first : goal.returns-then-is_some-clause-first
returns-then-is_some-clause-first c =
    let w = c.args.self.now in
    let ps = c.args.predicates.now in
    let i = c.loop-predicate.predicate-index in
    record {
      before = map (name_of w.types) (take i ps);
      after = map (name_of w.types) (drop (i + 1) ps);
      whole = mapped_split (name_of w.types) ps i (record { 0 = 0 }) c.loop-predicate-test.true;
      new_before = c.loop-predicate.invariant.new;
      defined = some_mapped (definition_of w) c.block.result _ (sym c.is_some.ensures ∙ c.if-is_some.true) c.block.ensures.reads;
    }
