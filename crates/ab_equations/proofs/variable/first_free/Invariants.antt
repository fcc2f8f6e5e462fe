use Rattle.std.proofs.Common.{ℕ, ◌<◌, ◌≤◌, ◌++◌, Contains, decimal}
use Rattle.ab_logic.specs.Worlds.{declarations_of}
use Rattle.ab_logic.specs.SequentReadings.{sequent_of}
use Rattle.ab_formulas.specs.FreeStems.{taken_names}
use Rattle.ab_equations.proofs.variable.first_free.Given as goal

abbrev pub invariant-loop-number : goal.invariant-loop-number
invariant-loop-number l =
    (m : ℕ) → l.first ≤ m → m < l.number → Contains (taken_names (declarations_of l.world) (sequent_of l.world l.sequent)) (l.stem ++ decimal m)
