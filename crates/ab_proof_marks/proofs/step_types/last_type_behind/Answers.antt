use Rattle.std.proofs.Common.{◌≡◌, ◌+◌, ◌-◌, ◌<◌, length, reverse, sym, ◌∙◌, ap, subst, arith}
use Rattle.std.specs.Prelude.{slice_get}
use Rattle.std.proofs.lemmas.Option.{slice_get-get_or}
use Rattle.ab_proof_marks.proofs.Stepping.{one_further, counted_back, as_many_standing, no_refinement}
use Rattle.ab_proof_marks.proofs.StepTypes.{IsLastSoFar, one_further_back, all_behind}
use Rattle.ab_proof_marks.proofs.Holding.{types_named}
use Rattle.ab_proof_marks.proofs.step_types.last_type_behind.Goals as goal
use Rattle.ab_proof_marks.proofs.step_types.last_type_behind.Goals.{in-Some, in_default}

pub loop-taken-preserved : goal.loop-taken-preserved
loop-taken-preserved c =
    let p = c.args.proof.now in
    let taken = c.loop-taken.taken in
    let standing = as_many_standing p c.steps-standing.result c.steps-standing.ensures in
    let there : taken < length p.journal = omega (arith, c.loop-taken-test.true, c.saturating_sub-taken-end.ensures, standing) in
    let at = ap (λ n. slice_get (reverse p.journal) (n - 1 - taken)) standing ∙ counted_back p taken there in
    elim c.match-refinement.branch [
      | in-Some n ↦
          let is = sym at ∙ sym c.refinement.ensures ∙ n.in-Some.is in
          let fewer = n.saturating_sub-count.ensures ∙ ap (λ k. k - n.in-Some.refinement.premises) c.loop-taken.invariant.nodes ∙ sym (one_further p taken n.in-Some.refinement is) in
          subst (IsLastSoFar p (taken + 1) c.match-refinement.count) (sym n.last-is)
          (subst (λ k. IsLastSoFar p (taken + 1) k n.later-last.result) (sym n.count-is)
          (one_further_back p taken c.loop-taken.count c.loop-taken.last c.loop-taken.invariant n.in-Some.refinement n.last_at_node.result n.later-last.result n.saturating_sub-count.result
          is n.last_at_node.ensures n.later-last.ensures fewer))
      | in_default n ↦ let bad = sym (slice_get-get_or p.journal taken no_refinement there) ∙ sym at ∙ sym c.refinement.ensures ∙ n.in_default.is in absurd (cc)
    ]

pub returns : goal.returns
returns c =
    let p = c.args.proof.now in
    let standing = as_many_standing p c.steps-standing.result c.steps-standing.ensures in
    all_behind p c.loop-taken.taken c.loop-taken.count c.loop-taken.last c.loop-taken.invariant c.args.steps
    (omega (arith, c.loop-taken-test.false, c.loop-taken.auto.taken-end, c.saturating_sub-taken-end.ensures, standing))
