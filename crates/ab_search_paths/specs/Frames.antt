-- How the path to an answer is read off what its search leaves.
use Rattle.std.specs.Prelude.{◌≡◌, ℕ, ◌+◌, ◌<◌, ◌≤◌, List, [], All}
use Rattle.ab_norm.specs.ab_types.specs.Entries.{Table}
use Rattle.ab_norm.specs.ab_store.specs.declared.node.TermId.{TermId}
use Rattle.ab_norm.specs.ab_store.specs.Trees.{Contents, Holds, HoldsCell}
use Rattle.ab_logic.specs.WorldGrowth.{Grows}
use Rattle.ab_logic.specs.Worlds.{declarations_of}
use Rattle.ab_logic.specs.declared.world.World.{World}
use Rattle.ab_walk.specs.ab_next_ways.specs.ab_search_ways.specs.Answers.{HoldsPlace}
use Rattle.ab_walk.specs.declared.frames.Frame.{Frame}
use Rattle.ab_search_paths.specs.declared.first_cells.Pair.{Pair}
use Rattle.ab_search_paths.specs.declared.first_cells.Pair.TheVariants.{Found, Inside, Nowhere}

-- WHAT THE SEARCH LEAVES of the path: what its places name is there
abbrev pub HoldsPath : Table → Contents → List Frame → Type 0
HoldsPath types store path = All (λ (f : Frame). HoldsPlace types store f.place) path

-- the second world came of the first: it grew, and declares the same
pub record IsLater (u w : World) : Type 0 where
  pub grows : Grows u w
  pub declared : declarations_of w ≡ declarations_of u

-- a world that declares nothing, for what is asked of a table and a store alone
abbrev pub as_world : Table → Contents → World
as_world types store = record { types = types; store = store; additions = [] }

-- what stands in two terms at one place, below a term and so many binders
abbrev pub HoldsPair : Contents → TermId → ℕ → Pair → Type 0
HoldsPair store body depth (Found c) = HoldsCell store c
HoldsPair store body depth (Inside a b d) = Holds store a × Holds store b × (a.0 < body.0) × (d + a.0 ≤ depth + body.0)
HoldsPair store body depth Nowhere = Unit {0}
