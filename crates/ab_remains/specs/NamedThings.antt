-- What an addition to a world names.
use Rattle.std.specs.Prelude.{All}
use Rattle.ab_typing.specs.DefinitionReadings.{HoldsClause}
use Rattle.ab_logic.specs.Worlds.{Holds}
use Rattle.ab_logic.specs.declared.world.World.{World}
use Rattle.ab_logic.specs.declared.additions.Addition.{Addition}
use Rattle.ab_logic.specs.declared.additions.Addition.TheVariants.{Theorem, Definition, Clause}

-- the terms and the cells that the addition names are there
abbrev pub HoldsAddition : World → Addition → Type 0
HoldsAddition w (Theorem e) = Holds w e.formula
HoldsAddition w (Definition b) = All (HoldsClause w.types w.store) b.clauses
HoldsAddition w (Clause c h) = HoldsClause w.types w.store c
