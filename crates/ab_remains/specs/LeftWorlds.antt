-- What is left of a world once what nothing names is dropped from its ends.
use Rattle.std.specs.Prelude.{◌≡◌, ℕ, ◌≤◌, length}
use Rattle.ab_store.specs.ab_types.specs.LastTypes.{LosesTypes}
use Rattle.ab_store.specs.declared.mark.Mark.{Mark}
use Rattle.ab_store.specs.Marks.{HasMark}
use Rattle.ab_logic.specs.Worlds.{declarations_of, IsWorld}
use Rattle.ab_logic.specs.WorldGrowth.{Grows}
use Rattle.ab_logic.specs.declared.world.World.{World}

-- the mark counts the nodes and cells of the world, and the number its additions
pub record IsCounted (w : World) (m : Mark) (count : ℕ) : Type 0 where
  pub mark : HasMark w.store m
  pub nodes : m.nodes ≡ length w.store.nodes
  pub cells : m.cells ≡ length w.store.cells
  pub additions : count ≡ length w.additions

-- THE SECOND WORLD IS WHAT IS LEFT OF THE FIRST: it declares the same, and what it holds reads as before
pub record IsLeft (old new : World) : Type 0 where
  pub world : IsWorld new
  pub types : LosesTypes old.types new.types
  pub additions : new.additions ≡ old.additions
  pub declared : declarations_of new ≡ declarations_of old
  pub reads : Grows new old

-- the second world has as many nodes and cells as the first
abbrev pub IsNoLonger : World → World → Type 0
IsNoLonger w v = (length w.store.nodes ≤ length v.store.nodes) × (length w.store.cells ≤ length v.store.cells)

-- the second world has as many types as the first, if it declares the same
abbrev pub HasAllTypes : World → World → Type 0
HasAllTypes w v = declarations_of v ≡ declarations_of w → length w.types ≤ length v.types
