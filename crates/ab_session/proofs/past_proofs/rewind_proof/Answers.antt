use Rattle.std.proofs.Common.{◌≡◌, ◌-◌, length, refl, ◌∙◌, ap, arith}
use Rattle.ab_proofcmd.specs.ab_hypothesis.specs.ab_steps.specs.ab_kernel.specs.Layout.{Held}
use Rattle.ab_proofcmd.specs.ab_hypothesis.specs.ab_steps.specs.ab_kernel.proofs.Earlier.{standing, shorter}
use Rattle.ab_session.proofs.StepCounts.{not_yet, one_back, all_back}
use Rattle.ab_session.proofs.past_proofs.rewind_proof.Goals as goal

pub loop-steps-init : goal.loop-steps-init
loop-steps-init g c = (not_yet c.args.count c.args.proof.now, refl, refl)

pub loop-steps-preserved : goal.loop-steps-preserved
loop-steps-preserved g c = (
  one_back c.args.count c.args.proof.now c.loop-steps.proof c.unrefine.new.self c.loop-steps.invariant.0 (omega (arith, c.steps.ensures c.loop-steps.world, standing c.loop-steps.world c.loop-steps.proof)) c.unrefine.ensures.layout,
  c.unrefine.ensures.world ∙ c.loop-steps.invariant.1,
  c.unrefine.ensures.steps ∙ c.loop-steps.invariant.2,
)

pub loop-steps-smaller : goal.loop-steps-smaller
loop-steps-smaller g c =
    let less : length c.unrefine.new.self.journal ≡ length c.loop-steps.proof.journal - 1 = ap (λ (p : Held). length p.journal) c.unrefine.ensures.layout ∙ shorter c.loop-steps.proof in
    omega (arith, less, c.steps.ensures c.loop-steps.world, standing c.loop-steps.world c.loop-steps.proof)

pub returns-clause-back : goal.returns-clause-back
returns-clause-back g c = λ p beyond counted.
    all_back c.args.count c.args.proof.now c.loop-steps.proof p c.loop-steps.invariant.0 (omega (arith, c.steps.ensures c.loop-steps.world, standing c.loop-steps.world c.loop-steps.proof)) beyond counted
