use Rattle.std.specs.Prelude.{Ok}
use Rattle.std.specs.List.{All}
use Rattle.std.proofs.Common.{List, [], map, inl, sym, ap, subst, arith}
use Rattle.std.proofs.lemmas.List.Elements.{All-cons}
use Rattle.ab_formulas.specs.NewNames.{IsNamedFor}
use Rattle.ab_logic.specs.SequentReadings.{sequent_of, HoldsSequent}
use Rattle.ab_formulas.specs.Sequents.{IsSequent, without}
use Rattle.ab_logic.specs.Worlds.{read, declarations_of}
use Rattle.ab_logic.specs.declared.sequent.Sequent.{Sequent as Kept}
use Rattle.ab_unify.specs.Problem.{cells_read}
use Rattle.ab_theory.specs.Equations.{Becomes}
use Rattle.ab_theory.proofs.Sequents.{without_sequent}
use Rattle.ab_kernel.proofs.Sides.{typed_pair}
use Rattle.ab_kernel.proofs.equality_rules.equal_left.Goals as goal

pub solve_in-requires-clause-sequent : goal.solve_in-requires-clause-sequent
solve_in-requires-clause-sequent g c =
    let w = c.args.world.now in
    subst (IsSequent (declarations_of w)) (sym (c.in_ok-goal.ensures.reads w))
    (without_sequent (declarations_of w) (sequent_of w c.args.sequent.now) c.args.name.now c.requires.sequent)

pub solve_in-requires-clause-pair : goal.solve_in-requires-clause-pair
solve_in-requires-clause-pair g c =
    let w = c.args.world.now in
    typed_pair w c.requires.world c.args.sequent.now c.requires.sequent c.args.name.now c.in-Some.formula c.in-Some-as_equal.left c.in-Some-as_equal.right
    (sym (c.in-Some.ensures.reads w)) (sym c.in-Some-as_equal.ensures.reads) c.in-Some-as_equal.ensures.held.0 c.in-Some-as_equal.ensures.held.1

pub returns-in_ok-one-in-Unified-clause-answers : goal.returns-in_ok-one-in-Unified-clause-answers
returns-in_ok-one-in-Unified-clause-answers g c =
    let w = c.args.world.now in
    let v = c.solve_in.new.world in
    let premise = c.in-Unified.premise in
    let t = read w c.in-Some-as_equal.left in
    let u = read w c.in-Some-as_equal.right in
    let becomes : Becomes (IsNamedFor (declarations_of w)) (cells_read w.types w.store) (without c.args.name.now (sequent_of w c.args.sequent.now)) t u (sequent_of v premise) =
    subst (λ s. Becomes (IsNamedFor (declarations_of w)) (cells_read w.types w.store) s t u (sequent_of v premise)) (c.in_ok-goal.ensures.reads w)
    (c.in_ok-premise.ensures.unified premise (ap Ok c.in-Unified.is)) in
    let held : HoldsSequent v premise = c.in_ok-premise.ensures.held premise (ap Ok c.in-Unified.is) in (
      (_, sym (c.in-Some.ensures.reads w), (_, sym c.in-Some-as_equal.ensures.reads, inl (sequent_of v premise, becomes, ap (λ (qs : List Kept). map (sequent_of v) qs) c.in_ok-one-in-Unified.ensures))),
      subst (λ (qs : List Kept). All (HoldsSequent v) qs) (sym c.in_ok-one-in-Unified.ensures) (All-cons (HoldsSequent v) premise [] held (λ k d l. absurd (omega arith))),
    )
