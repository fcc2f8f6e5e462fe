-- The label that the program's stands for.
use Rattle.ab_formulas.specs.NewNames as names
use Rattle.ab_formulas.specs.NewNames.{auto, given}
use Rattle.ab_equations.specs.declared.label.Label.{Label}
use Rattle.ab_equations.specs.declared.label.Label.TheVariants.{Auto, Given}

abbrev pub label_of : Label → names.Label
label_of Auto = auto
label_of (Given name) = given name
