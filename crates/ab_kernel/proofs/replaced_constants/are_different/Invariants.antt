use Rattle.std.proofs.Common.{ℕ, ◌<◌}
use Rattle.ab_kernel.specs.StandsAgain.{StandsAgain}
use Rattle.ab_kernel.proofs.replaced_constants.are_different.Given as goal

abbrev pub invariant-loop-place : goal.invariant-loop-place
invariant-loop-place l = (k : ℕ) → k < l.place → StandsAgain l.constants k → ⊥
