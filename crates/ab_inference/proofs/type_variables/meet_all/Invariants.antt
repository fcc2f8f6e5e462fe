use Rattle.ab_inference.proofs.Pushing.{MetSoFar}
use Rattle.ab_inference.proofs.type_variables.meet_all.Given as goal

abbrev pub invariant-loop-one : goal.invariant-loop-one
invariant-loop-one l = MetSoFar l.types l.fn.shapes l.shapes l.wanted l.one-index
