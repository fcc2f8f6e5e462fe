use Rattle.std.specs.Prelude.{◌≡◌, length}
use Rattle.ab_kernel.specs.Layout.{before_steps}
use Rattle.ab_proof_marks.proofs.proof_marks.count_standing.Given as goal

abbrev pub invariant-loop-taken : goal.invariant-loop-taken
invariant-loop-taken l = l.count ≡ length (before_steps l.taken l.proof).nodes
