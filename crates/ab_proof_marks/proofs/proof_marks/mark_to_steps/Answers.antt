use Rattle.std.proofs.Common.{◌+◌, length, reverse, sym, ◌∙◌, subst, arith}
use Rattle.std.proofs.lemmas.List.{length-reverse}
use Rattle.std.proofs.lemmas.Option.{slice_get-get_or}
use Rattle.ab_kernel.specs.declared.proof.Refinement.{Refinement}
use Rattle.ab_kernel.proofs.Earlier.{standing}
use Rattle.ab_remains.proofs.Raising.{IsRaisedSoFar, raised_further, raised_for_each_long}
use Rattle.ab_proof_marks.specs.NamedInProofs.{HoldsTermsOf}
use Rattle.ab_proof_marks.proofs.proof_marks.mark_to_steps.Goals as goal
use Rattle.ab_proof_marks.proofs.proof_marks.mark_to_steps.Goals.{in-Some, in_default}

pub loop-place-preserved : goal.loop-place-preserved
loop-place-preserved c =
    let w = c.args.world.now in
    let p = c.args.proof.now in
    let xs = reverse p.journal in
    let i = c.loop-place.place in
    let first : Refinement = record { place = 0; node = 0; premises = 0 } in
    elim c.match-refinement.branch [
      | in-Some n ↦
          subst (IsRaisedSoFar w xs (HoldsTermsOf p.nodes) c.args.first (i + 1) c.args.mark) (sym n.raised-is)
          (raised_further w xs (HoldsTermsOf p.nodes) c.args.first i c.args.mark c.loop-place.raised n.mark_to_step_of-raised.result n.in-Some.refinement
          (omega (arith, c.loop-place-test.true, c.steps-place-end.ensures w, standing w p, length-reverse p.journal)) (sym n.in-Some.ensures) c.loop-place.invariant n.mark_to_step_of-raised.ensures)
      | in_default n ↦
          let bad = sym (slice_get-get_or xs i first (omega (arith, c.loop-place-test.true, c.steps-place-end.ensures w, standing w p, length-reverse p.journal))) ∙ sym c.refinement.ensures in absurd (cc)
    ]

pub returns : goal.returns
returns c =
    let w = c.args.world.now in
    let p = c.args.proof.now in
    raised_for_each_long w (reverse p.journal) (HoldsTermsOf p.nodes) c.args.first c.loop-place.place c.args.mark c.loop-place.raised (length p.journal) (length-reverse p.journal)
    (omega (arith, c.loop-place-test.false, c.steps-place-end.ensures w, standing w p, length-reverse p.journal)) c.loop-place.invariant
