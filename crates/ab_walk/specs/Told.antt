-- WHAT A WALK TELLS of the leaves of its tree.
use Rattle.std.specs.Prelude.{◌≡◌, ◌↔◌, ℕ, List, Option, Some, None, IsTrue, Contains}
use Rattle.ab_logic.specs.declared.world.World.{World}
use Rattle.ab_search_trees.specs.Tree.{Leaf, blind}
use Rattle.ab_search_trees.specs.Outcomes.{Outcome, closed, not_pattern, not_found, outcome_of}
use Rattle.ab_walk.specs.declared.walk.Told.{Told}
use Rattle.ab_walk.specs.declared.walk.Told.TheVariants.{Found, Not}

-- the outcome, where no goal was closed: the first equation outside the patterns, if there is one
abbrev pub outcome_without : Option ℕ → Outcome
outcome_without None = not_found
outcome_without (Some i) = not_pattern i

-- THE OUTCOME IS TOLD; and where nothing was found, whether the search was blind somewhere
abbrev pub Tells : List Leaf → Told → Type 0
Tells ls Found = outcome_of ls ≡ closed
Tells ls (Not stuck unseen) = (outcome_of ls ≡ outcome_without stuck) × (IsTrue unseen ↔ Contains ls blind)

-- the store is as before, but for room
abbrev pub IsAsBefore : World → World → Type 0
IsAsBefore old new = (new.store.nodes ≡ old.store.nodes) × (new.store.cells ≡ old.store.cells) × (new.store.bindings ≡ old.store.bindings)

-- unless the goals were closed
abbrev pub UnlessFound : Told → Type 0 → Type 0
UnlessFound Found P = Unit {0}
UnlessFound (Not stuck unseen) P = P
