-- The program's places, as those of formulas. Public contracts don't speak of this.
use Rattle.ab_formulas.specs.Formulas as word
use Rattle.ab_typing.specs.declared.formulas.Place.{Place}
use Rattle.ab_typing.specs.declared.formulas.Place.TheVariants.{Formula, Scope, Marked, Any}

abbrev pub place_of : Place → word.Place
place_of Formula = word.a_formula
place_of Scope = word.a_scope
place_of Marked = word.a_marked
place_of Any = word.any
