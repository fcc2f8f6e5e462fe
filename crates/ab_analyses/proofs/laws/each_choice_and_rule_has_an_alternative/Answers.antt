use Rattle.ab_formulas.specs.Sequents.{goal_names}
use Rattle.ab_theory.specs.Atoms.{choices_of}
use Rattle.ab_analyses.specs.Alternatives.{by_choice, by_rule}
use Rattle.ab_analyses.proofs.CasesBy.{mapped_many}
use Rattle.ab_analyses.proofs.laws.each_choice_and_rule_has_an_alternative.Goals as goal

pub returns-clause-choices : goal.returns-clause-choices
returns-clause-choices c = λ side s d cells. mapped_many (by_choice side s d) (choices_of (goal_names s) d) cells

pub returns-clause-rules : goal.returns-clause-rules
returns-clause-rules c = λ side s j rs cells. mapped_many (by_rule j) rs cells
