-- What a call that makes terms leaves of a world: the types, the cells and the declarations are as before.
use Rattle.std.specs.Prelude.{◌≡◌}
use Rattle.ab_logic.specs.WorldGrowth.{Grows}
use Rattle.ab_logic.specs.Worlds.{declarations_of}
use Rattle.ab_logic.specs.declared.world.World.{World}

pub record Adds (old new : World) : Type 0 where
  pub grows : Grows old new
  pub types : new.types ≡ old.types
  pub cells : new.store.cells ≡ old.store.cells
  pub declared : declarations_of new ≡ declarations_of old
