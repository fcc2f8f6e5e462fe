-- What a call that declares the files of a specification leaves of a world: exactly one of these holds.
use Rattle.std.specs.Prelude.{◌≡◌, List, ◌++◌, Option, Some, None}
use Rattle.ab_formulas.specs.Declarations.{Declarations}
use Rattle.ab_logic.specs.WorldGrowth.{Grows}
use Rattle.ab_logic.specs.Worlds.{declarations_of}
use Rattle.ab_logic.specs.declared.world.World.{World}
use Rattle.ab_sigmod.specs.FileOrder.{Read}
use Rattle.ab_declare.specs.declared.refusal.Refusal.{Refusal}
use Rattle.ab_declare.specs.Moments.{IsRestored}
use Rattle.ab_specification.specs.FileDeclarations.{SpecDeclares, SpecDeclines}

-- what the files declare stands behind what there was
pub record IsSpecified (old new : World) (files : List Read) : Type 0 where
  pub more : Declarations
  pub declares : SpecDeclares (declarations_of old) files more
  pub declared : declarations_of new ≡ declarations_of old ++ more
  pub grows : Grows old new

-- they are refused, and nothing is left of them
pub record IsUnspecified (old new : World) (files : List Read) (r : Refusal) : Type 0 where
  pub declines : SpecDeclines (declarations_of old) files r
  pub restored : IsRestored old new

abbrev pub Specified : World → World → List Read → Option Refusal → Type 0
Specified old new files None = IsSpecified old new files
Specified old new files (Some r) = IsUnspecified old new files r
