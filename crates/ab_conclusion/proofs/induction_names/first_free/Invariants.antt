use Rattle.std.proofs.Common.{ℕ, ◌<◌, ◌≤◌, ◌++◌, decimal}
use Rattle.ab_logic.specs.SequentReadings.{sequent_of}
use Rattle.ab_formulas.specs.Sequents.{IsUsed}
use Rattle.ab_conclusion.proofs.induction_names.first_free.Given as goal

abbrev pub invariant-loop-number : goal.invariant-loop-number
invariant-loop-number l = (m : ℕ) → 1 ≤ m → m < l.number → IsUsed (sequent_of l.world l.goal) (l.word ++ decimal m)
