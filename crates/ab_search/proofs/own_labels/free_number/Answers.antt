use Rattle.std.specs.Prelude.{codes, Contains, None}
use Rattle.std.proofs.Common.{◌≡◌, ◌+◌, ◌++◌, inl, inr, length, decimal, subst, arith}
use Rattle.std.proofs.lemmas.Bool.{cases_lt}
use Rattle.ab_formulas.specs.Sequents.{formula_of}
use Rattle.ab_logic.specs.SequentReadings.{sequent_of}
use Rattle.ab_steps.specs.ab_kernel.specs.ab_judgements.specs.ab_alternatives.specs.ab_equations.specs.ab_free_names.proofs.Free.{too_many}
use Rattle.ab_search.proofs.HypothesisNames.{names, count, used}
use Rattle.ab_search.proofs.own_labels.free_number.Goals as goal

pub returns-then-is_free-clause-free : goal.returns-then-is_free-clause-free
returns-then-is_free-clause-free c =
    subst (λ x. formula_of (sequent_of c.args.world.now c.args.goal.now) x ≡ None) c.in_ok-name.ensures (c.is_free.ensures.free c.if-is_free.true)

pub loop-number-preserved : goal.loop-number-preserved
loop-number-preserved c = λ m from below.
    let n = c.loop-number.number in
    let hs = c.args.goal.now.hypotheses in
    let here : Contains (names hs) (codes "_" ++ decimal n) =
    subst (Contains (names hs)) c.in_ok-name.ensures (used c.args.world.now hs c.in_ok-name.name (c.is_free.ensures.taken c.if-is_free.false)) in
    elim (cases_lt m n) [
      | inl less ↦ c.loop-number.invariant m from less
      | inr k ↦ let same : n ≡ m = omega (arith, k, below) in subst (λ j. Contains (names hs) (codes "_" ++ decimal j)) same here
    ]

pub unreachable-requires : goal.unreachable-requires
unreachable-requires c =
    let hs = c.args.goal.now.hypotheses in
    let long = count hs in
    let ended = c.loop-number-test.false in
    let many = c.hypothesis_count-count.ensures.count in
    let small = c.hypothesis_count-count.ensures.small in
    let start = c.requires in
    too_many (names hs) (codes "_") c.args.from (length hs + 1) (omega (arith, long)) (omega (arith, many, small, start))
    (λ m from below. c.loop-number.invariant m from (omega (arith, ended, below, many)))
