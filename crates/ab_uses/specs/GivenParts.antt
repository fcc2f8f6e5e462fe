-- Terms that are given, as the program holds them. Public contracts don't speak of this.
use Rattle.ab_norm.specs.ab_types.specs.Ids.{HoldsType}
use Rattle.ab_logic.specs.Worlds.{Holds}
use Rattle.ab_logic.specs.declared.world.World.{World}
use Rattle.ab_uses.specs.declared.given_terms.GivenTerm.{GivenTerm}

-- the term is there, and the type of its name
abbrev pub IsGiven : World → GivenTerm → Type 0
IsGiven w g = Holds w g.value × HoldsType w.types g.ty
