-- A world to which terms were added, and nothing else.
use Rattle.std.specs.Prelude.{◌≡◌}
use Rattle.ab_logic.specs.WorldGrowth.{Grows}
use Rattle.ab_logic.specs.Worlds.{declarations_of}
use Rattle.ab_logic.specs.declared.world.World.{World}

pub record GotTerms (old new : World) : Type 0 where
  pub grows : Grows old new
  pub types : new.types ≡ old.types
  pub additions : new.additions ≡ old.additions
  pub declared : declarations_of new ≡ declarations_of old
