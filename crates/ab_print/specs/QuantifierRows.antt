-- How a writer goes along equal quantifiers in a row, one after another.
use Rattle.std.specs.Prelude.{List, ℕ, ◌++◌, true, if◌then◌else◌, codes}
use Rattle.ab_grammar.specs.declared.Quant.{Quant}
use Rattle.ab_print.specs.Shapes.{Shape, bind}
use Rattle.ab_print.specs.ShapeText.{bare, bound, part_bytes}
use Rattle.ab_print.specs.NameAssignment.{same_quantifier}

-- what is written behind the first name that a quantifier binds, where it reaches over this
abbrev pub rest : Quant → Shape → List ℕ
rest q (bind p ys s) = if same_quantifier q p then (bound part_bytes ys ++ (codes ", " ++ bare part_bytes s true)) else (codes ", " ++ bare part_bytes (bind p ys s) true)
rest q s = codes ", " ++ bare part_bytes s true
