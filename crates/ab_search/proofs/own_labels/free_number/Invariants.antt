use Rattle.std.specs.Prelude.{codes, Contains}
use Rattle.std.proofs.Common.{ℕ, ◌<◌, ◌≤◌, ◌++◌, decimal}
use Rattle.ab_search.proofs.HypothesisNames.{names}
use Rattle.ab_search.proofs.own_labels.free_number.Given as goal

abbrev pub invariant-loop-number : goal.invariant-loop-number
invariant-loop-number l = (m : ℕ) → l.from ≤ m → m < l.number → Contains (names l.goal.hypotheses) (codes "_" ++ decimal m)
