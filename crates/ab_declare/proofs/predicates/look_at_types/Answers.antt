use Rattle.std.proofs.Common.{◌∙◌, sym, subst, arith}
use Rattle.std.proofs.lemmas.Result.{err_from_is_err_and}
use Rattle.std.specs.Prelude.{All}
use Rattle.ab_norm.specs.ab_types.specs.Entries.{kinds}
use Rattle.ab_norm.specs.ab_types.proofs.Entries.{extended_twice}
use Rattle.ab_syntax.specs.Commands.{defined_of}
use Rattle.ab_declare.specs.DefinitionCommands.{IsPredicate, IsNoPredicate}
use Rattle.ab_declare.specs.Halts.{Halts, HasKinds}
use Rattle.ab_declare.proofs.Turns.{of_item, all_behind, first_halts, at_end}
use Rattle.ab_declare.proofs.predicates.look_at_types.Goals as goal

pub look_at_type-requires : goal.look_at_type-requires
look_at_type-requires c =
    let i = c.loop-predicate.predicate-index in
    subst (λ ks. HasKinds ks (defined_of c.predicate-item.result)) (sym c.loop-predicate.invariant.kinds)
    (of_item defined_of c.args.predicates.now i c.predicate-item.result c.loop-predicate-test.true c.predicate-item.is (HasKinds (kinds c.args.types.now)) c.requires.kinds)

pub returns-in_err-look_at_type-clause-looked : goal.returns-in_err-look_at_type-clause-looked
returns-in_err-look_at_type-clause-looked c =
    let i = c.loop-predicate.predicate-index in
    let p = err_from_is_err_and c.from_residual.result c.from_residual.ensures.1 in
    let ks = kinds c.args.types.now in
    rw (p.1, p.2) (first_halts defined_of c.args.predicates.now i c.predicate-item.result c.loop-predicate-test.true c.predicate-item.is (IsPredicate ks) (IsNoPredicate ks) c.in_err-look_at_type.field-0.0
    c.loop-predicate.invariant.fine (subst (λ z. Halts (IsNoPredicate z (defined_of c.predicate-item.result)) c.in_err-look_at_type.field-0.0) c.loop-predicate.invariant.kinds c.in_err-look_at_type.ensures.looked))

pub loop-predicate-preserved : goal.loop-predicate-preserved
loop-predicate-preserved c =
    let inv = c.loop-predicate.invariant in
    let now = c.in_ok-look_at_type.ensures in
    let ks = kinds c.args.types.now in
    record {
      fine =
          all_behind defined_of c.args.predicates.now c.loop-predicate.predicate-index c.predicate-item.result c.loop-predicate-test.true c.predicate-item.is (IsPredicate ks) inv.fine
          (subst (λ z. IsPredicate z (defined_of c.predicate-item.result)) inv.kinds now.looked);
      kinds = now.kinds ∙ inv.kinds;
      constants = now.constants ∙ inv.constants;
      kept = extended_twice c.args.types.now c.loop-predicate.types c.look_at_type.new.types inv.kept now.kept;
      table = now.table;
    }

pub returns-clause-looked : goal.returns-clause-looked
returns-clause-looked c =
    subst (All (IsPredicate (kinds c.args.types.now))) (at_end defined_of c.args.predicates.now c.loop-predicate.predicate-index (omega (arith, c.loop-predicate-test.false))) c.loop-predicate.invariant.fine
