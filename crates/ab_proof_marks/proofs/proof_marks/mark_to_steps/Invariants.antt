use Rattle.std.specs.Prelude.{reverse}
use Rattle.ab_remains.proofs.Raising.{IsRaisedSoFar}
use Rattle.ab_proof_marks.specs.NamedInProofs.{HoldsTermsOf}
use Rattle.ab_proof_marks.proofs.proof_marks.mark_to_steps.Given as goal

abbrev pub invariant-loop-place : goal.invariant-loop-place
invariant-loop-place l = IsRaisedSoFar l.world (reverse l.proof.journal) (HoldsTermsOf l.proof.nodes) l.fn.first l.place l.fn.mark l.raised
