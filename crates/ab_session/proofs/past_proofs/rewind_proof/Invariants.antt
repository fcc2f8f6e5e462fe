use Rattle.std.specs.Prelude.{◌≡◌, length}
use Rattle.ab_session.proofs.StepCounts.{IsBack}
use Rattle.ab_session.proofs.past_proofs.rewind_proof.Given as goal

abbrev pub invariant-loop-steps : goal.invariant-loop-steps
invariant-loop-steps g l = IsBack l.count l.initial.proof l.proof × (l.world ≡ l.initial.world) × (l.steps ≡ l.initial.steps)

abbrev pub decreases-loop-steps : goal.decreases-loop-steps
decreases-loop-steps g l = length l.proof.journal
