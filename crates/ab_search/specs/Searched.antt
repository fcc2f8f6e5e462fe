-- WHAT A SEARCH OF THE FIRST GOAL COMES TO.
use Rattle.std.specs.Prelude.{◌≡◌, ◌+◌, ℕ, List, ◌∷◌, true}
use Rattle.ab_formulas.specs.Sequents.{Sequent}
use Rattle.ab_logic.specs.Worlds.{declarations_of}
use Rattle.ab_logic.specs.declared.world.World.{World}
use Rattle.ab_search_trees.specs.Goals.{first_goal}
use Rattle.ab_search_trees.specs.Guesses.{Guessed}
use Rattle.ab_search_trees.specs.Outcomes.{Outcome, closed, not_pattern, not_found, ComesTo}
use Rattle.ab_search_completeness.specs.Places.{SeesAll}
use Rattle.ab_steps.specs.ab_kernel.specs.Layout.{Held, goals_of}

-- the search of the first goal, to the depth, comes to the outcome
abbrev pub FirstComesTo : World → Held → ℕ → Outcome → Type 0
FirstComesTo w p depth o = (s : Sequent) (rest : List Sequent) → goals_of w p ≡ s ∷ rest → ComesTo (declarations_of w) depth s o

-- IT IS CLOSED, as the tree says, and the other goals are as they were
abbrev pub IsClosed : World → Held → ℕ → World → Held → Type 0
IsClosed w p depth v q = (s : Sequent) (rest : List Sequent) → goals_of w p ≡ s ∷ rest → ComesTo (declarations_of w) depth s closed × (goals_of v q ≡ rest)

-- NO WAY CLOSES IT, and no equation is outside the patterns
abbrev pub IsNotFound : World → Held → ℕ → Type 0
IsNotFound w p depth = FirstComesTo w p depth not_found

-- no way closes it, and the first equation outside the patterns has this number, counted from 1
abbrev pub IsOutside : World → Held → ℕ → ℕ → Type 0
IsOutside w p depth number = (i : ℕ) × (number ≡ i + 1) × FirstComesTo w p depth (not_pattern i)

-- NO DERIVATION IS MISSED: where the search sees all, there is none of that depth by guessed terms
abbrev pub MissesNone : World → Held → ℕ → Type 0
MissesNone w p depth =
    (s : Sequent) (rest : List Sequent) → goals_of w p ≡ s ∷ rest → SeesAll (declarations_of w) depth s → ¬ Guessed (declarations_of w) true (first_goal depth s)
