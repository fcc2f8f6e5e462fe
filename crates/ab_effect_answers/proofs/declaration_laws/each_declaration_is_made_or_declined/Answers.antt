use Rattle.ab_existence.proofs.Certain.{sure, of_two}
use Rattle.ab_effect_answers.proofs.Declaring.{kinds_answered, constants_answered, define_answered}
use Rattle.ab_effect_answers.proofs.declaration_laws.each_declaration_is_made_or_declined.Goals as goal

pub returns-clause-of_kinds : goal.returns-clause-of_kinds
returns-clause-of_kinds c = λ D xs. of_two (sure (kinds_answered D xs))

pub returns-clause-of_constants : goal.returns-clause-of_constants
returns-clause-of_constants c = λ D xs w. of_two (constants_answered D xs w)

pub returns-clause-of_predicates : goal.returns-clause-of_predicates
returns-clause-of_predicates c = λ D inductive ds cs. of_two (define_answered D inductive ds cs)
