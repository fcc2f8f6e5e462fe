-- How the goals that `case` leaves come of those into which the hypothesis splits its goal.
use Rattle.std.specs.Prelude.{◌≡◌, List}
use Rattle.ab_formulas.specs.Declarations.{Declarations}
use Rattle.ab_formulas.specs.Forms.{Form, marked, other}
use Rattle.ab_formulas.specs.NewNames.{Label}
use Rattle.ab_formulas.specs.Sequents.{Sequent}
use Rattle.ab_effects.specs.CaseAnalysis.{AllOpened}

-- The first goals come to the second, by the form of the hypothesis: what is assumed last, by an atom or a judgement, is opened, with the
-- label for the first that comes of it. Else they are these goals.
abbrev pub ComeTo : Declarations → Form → Label → List Sequent → List Sequent → Type 0
ComeTo D (marked m t) l gs us = AllOpened D l gs us
ComeTo D other l gs us = AllOpened D l gs us
ComeTo D _ l gs us = us ≡ gs
