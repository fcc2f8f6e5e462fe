use Rattle.ab_existence.proofs.Certain.{of_two}
use Rattle.ab_effect_answers.proofs.Declaring.{theorem_answered}
use Rattle.ab_effect_answers.proofs.declaration_laws.each_theorem_is_stated_or_declined.Goals as goal

pub returns : goal.returns
returns c = λ D x e. of_two (theorem_answered D x e)
