use Rattle.std.proofs.Common.{ℕ, ◌<◌}
use Rattle.ab_sequents.specs.NameTypes.{StandsAgain}
use Rattle.ab_sequents.proofs.cycles.are_different.Given as goal

abbrev pub invariant-loop-place : goal.invariant-loop-place
invariant-loop-place l = (k : ℕ) → k < l.place → StandsAgain l.numbers k → ⊥
