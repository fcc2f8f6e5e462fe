-- HOW MANY GOALS STAND WHERE ONE STOOD. Public contracts don't speak of it.
use Rattle.std.specs.Prelude.{◌≡◌, ℕ, ◌+◌, List, ◌++◌, length}
use Rattle.ab_formulas.specs.Sequents.{Sequent}
use Rattle.ab_logic.specs.declared.world.World.{World}
use Rattle.ab_steps.specs.ab_kernel.specs.Layout.{Held, goals_of}
use Rattle.ab_steps.specs.Progress.{GaveWay}

-- the goal of this place gave way to so many
abbrev pub GaveWayTo : World → Held → World → Held → ℕ → ℕ → Type 0
GaveWayTo w p v q place count = GaveWay w p v q place (λ s ps. length ps ≡ count)

-- the first so many goals gave way to so many
abbrev pub FirstGaveWay : World → Held → World → Held → ℕ → ℕ → Type 0
FirstGaveWay w p v q n m = (gs rest : List Sequent) → length gs ≡ n → goals_of w p ≡ gs ++ rest → (hs : List Sequent) × (length hs ≡ m) × (goals_of v q ≡ hs ++ rest)

-- the goal of this place gave way to as many goals as things wait that didn't wait before
abbrev pub GaveWayFor : {T : Type 0} → World → Held → World → Held → ℕ → List T → List T → Type 0
GaveWayFor w p v q place before waiting = (count : ℕ) × GaveWayTo w p v q place count × (length waiting ≡ length before + count)
