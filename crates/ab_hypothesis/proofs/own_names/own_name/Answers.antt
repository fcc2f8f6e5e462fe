use Rattle.std.specs.Prelude.{codes, Contains}
use Rattle.std.proofs.Common.{◌≡◌, ◌+◌, ◌++◌, inl, inr, length, decimal, subst, arith}
use Rattle.std.proofs.lemmas.Bool.{cases_lt}
use Rattle.ab_equations.specs.Labels.{label_of}
use Rattle.ab_equations.specs.ab_free_names.proofs.Free.{too_many}
use Rattle.ab_hypothesis.proofs.Naming.{taken_by, taken_length, is_taken, is_own, is_first}
use Rattle.ab_hypothesis.proofs.own_names.own_name.Goals as goal

pub returns-then-is_new-clause-own : goal.returns-then-is_new-clause-own
returns-then-is_new-clause-own c = is_own (label_of c.args.label.now) c.loop-number.number c.in_ok-name.name c.in_ok-name.ensures (c.is_new.ensures.label c.if-is_new.true)

pub returns-then-is_new-clause-first : goal.returns-then-is_new-clause-first
returns-then-is_new-clause-first c =
    is_first c.args.world.now (label_of c.args.label.now) c.args.sequent.now c.loop-number.number c.in_ok-name.name c.loop-number.auto.number c.in_ok-name.ensures
    (c.is_new.ensures.new c.if-is_new.true c.args.world.now) (c.is_new.ensures.label c.if-is_new.true) c.loop-number.invariant

pub loop-number-preserved : goal.loop-number-preserved
loop-number-preserved c = λ m from below.
    let n = c.loop-number.number in
    let l = label_of c.args.label.now in
    let hs = c.args.sequent.now.hypotheses in
    let here : Contains (taken_by l hs) (codes "_" ++ decimal n) =
    subst (Contains (taken_by l hs)) c.in_ok-name.ensures (is_taken c.args.world.now l c.args.sequent.now c.in_ok-name.name (c.is_new.ensures.taken c.if-is_new.false)) in
    elim (cases_lt m n) [
      | inl less ↦ c.loop-number.invariant m from less
      | inr k ↦ let same : n ≡ m = omega (arith, k, below) in subst (λ j. Contains (taken_by l hs) (codes "_" ++ decimal j)) same here
    ]

pub unreachable-requires : goal.unreachable-requires
unreachable-requires c =
    let l = label_of c.args.label.now in
    let hs = c.args.sequent.now.hypotheses in
    let long = taken_length l hs in
    let ended = c.loop-number-test.false in
    let last = c.last_number-last.ensures.last in
    let small = c.last_number-last.ensures.small in
    too_many (taken_by l hs) (codes "_") 1 (length hs + 2) (omega (arith, long)) (omega (arith, last, small))
    (λ m from below. c.loop-number.invariant m from (omega (arith, ended, below, last)))
