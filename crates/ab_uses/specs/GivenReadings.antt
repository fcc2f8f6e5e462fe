-- What the program's given terms stand for.
use Rattle.std.specs.Prelude.{Option, None, Some}
use Rattle.ab_norm.specs.ab_types.specs.Ids.{type_of}
use Rattle.ab_norm.specs.ab_store.specs.declared.node.TermId.{TermId}
use Rattle.ab_logic.specs.Worlds.{Holds, read}
use Rattle.ab_logic.specs.declared.world.World.{World}
use Rattle.ab_theory.specs.Pieces.{Given}
use Rattle.ab_uses.specs.declared.given_terms.GivenTerm.{GivenTerm}

abbrev pub given_of : World → GivenTerm → Given
given_of w g = record { name = g.name; type = type_of w.types g.ty; value = read w g.value }

abbrev pub HoldsIfAny : World → Option TermId → Type 0
HoldsIfAny w None = Unit {0}
HoldsIfAny w (Some t) = Holds w t
