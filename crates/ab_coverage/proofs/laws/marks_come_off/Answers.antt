use Rattle.ab_term.specs.Sameness.{same_number}
use Rattle.ab_term.specs.Variables.{value_in}
use Rattle.ab_coverage.proofs.Erasing.{erased-image, erased-marked, erased-open}
use Rattle.ab_coverage.proofs.laws.marks_come_off.Goals as goal

pub returns-clause-substitutions : goal.returns-clause-substitutions
returns-clause-substitutions c = λ f sg F is. erased-image (value_in same_number f) F is.stands

pub returns-clause-bodies : goal.returns-clause-bodies
returns-clause-bodies c = λ ps m F. erased-marked ps m F

pub returns-clause-goals : goal.returns-clause-goals
returns-clause-goals c = λ m L G. erased-open m L G
