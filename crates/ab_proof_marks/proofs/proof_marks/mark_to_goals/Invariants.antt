use Rattle.ab_remains.proofs.Raising.{IsRaisedSoFar}
use Rattle.ab_proof_marks.specs.NamedInProofs.{HoldsGoal}
use Rattle.ab_proof_marks.proofs.proof_marks.mark_to_goals.Given as goal

abbrev pub invariant-loop-place : goal.invariant-loop-place
invariant-loop-place l = IsRaisedSoFar l.world l.proof.nodes HoldsGoal l.fn.first l.place l.fn.mark l.raised
