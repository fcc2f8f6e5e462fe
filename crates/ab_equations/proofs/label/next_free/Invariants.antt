use Rattle.std.proofs.Common.{ℕ, ◌≤◌}
use Rattle.ab_logic.specs.SequentReadings.{sequent_of}
use Rattle.ab_logic.specs.declared.world.World.{World}
use Rattle.ab_formulas.specs.NewNames.{IsFree}
use Rattle.ab_equations.proofs.label.next_free.Given as goal

abbrev pub invariant-loop-before : goal.invariant-loop-before
invariant-loop-before l = (w : World) (m : ℕ) → m ≤ l.before → IsFree (sequent_of w l.sequent) m → ⊥
