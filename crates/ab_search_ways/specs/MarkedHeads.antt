-- Whether a head makes a mark. Public contracts don't speak of it.
use Rattle.std.specs.Prelude.{Bool, true, false}
use Rattle.ab_formulas.specs.Marks.{Making, by_mark}

abbrev pub makes_mark : Making → Bool
makes_mark (by_mark m) = true
makes_mark _ = false
