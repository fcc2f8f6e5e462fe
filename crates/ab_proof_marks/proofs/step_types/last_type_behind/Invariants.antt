use Rattle.ab_proof_marks.proofs.StepTypes.{IsLastSoFar}
use Rattle.ab_proof_marks.proofs.step_types.last_type_behind.Given as goal

abbrev pub invariant-loop-taken : goal.invariant-loop-taken
invariant-loop-taken l = IsLastSoFar l.proof l.taken l.count l.last
