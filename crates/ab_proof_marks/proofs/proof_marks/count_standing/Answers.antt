use Rattle.std.proofs.Common.{◌≡◌, ◌-◌, ◌<◌, length, reverse, sym, ◌∙◌, ap, arith}
use Rattle.std.specs.Prelude.{slice_get}
use Rattle.std.proofs.lemmas.Option.{slice_get-get_or}
use Rattle.ab_kernel.specs.Layout.{before_steps}
use Rattle.ab_proof_marks.proofs.Stepping.{one_further, counted_back, as_many_standing, no_refinement}
use Rattle.ab_proof_marks.proofs.proof_marks.count_standing.Goals as goal
use Rattle.ab_proof_marks.proofs.proof_marks.count_standing.Goals.{in-Some, in_default}

pub loop-taken-preserved : goal.loop-taken-preserved
loop-taken-preserved c =
    let p = c.args.proof.now in
    let taken = c.loop-taken.taken in
    let standing = as_many_standing p c.steps-standing.result c.steps-standing.ensures in
    let there : taken < length p.journal = omega (arith, c.loop-taken-test.true, c.saturating_sub-taken-end.ensures, standing) in
    let at = ap (λ n. slice_get (reverse p.journal) (n - 1 - taken)) standing ∙ counted_back p taken there in
    elim c.match-refinement.branch [
      | in-Some n ↦
          n.count-is ∙ n.saturating_sub-count.ensures ∙ ap (λ k. k - n.in-Some.refinement.premises) c.loop-taken.invariant
          ∙ sym (one_further p taken n.in-Some.refinement (sym at ∙ sym c.refinement.ensures ∙ n.in-Some.is))
      | in_default n ↦ let bad = sym (slice_get-get_or p.journal taken no_refinement there) ∙ sym at ∙ sym c.refinement.ensures ∙ n.in_default.is in absurd (cc)
    ]

pub returns : goal.returns
returns c =
    let p = c.args.proof.now in
    let standing = as_many_standing p c.steps-standing.result c.steps-standing.ensures in
    c.loop-taken.invariant
    ∙ ap (λ n. length (before_steps n p).nodes) (let all : c.loop-taken.taken ≡ length p.journal - c.args.steps = omega (arith, c.loop-taken-test.false, c.loop-taken.auto.taken-end, c.saturating_sub-taken-end.ensures, standing) in all)
