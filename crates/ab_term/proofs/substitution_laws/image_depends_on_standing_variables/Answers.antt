use Rattle.ab_term.specs.Variables.{value_in}
use Rattle.ab_term.proofs.Depends.{image_agrees, image_unmoved, image_rigid}
use Rattle.ab_term.proofs.substitution_laws.image_depends_on_standing_variables.Goals as goal

pub returns-clause-agree : goal.returns-clause-agree
returns-clause-agree g c = λ same s r t a. image_agrees (value_in same s) (value_in same r) t a

pub returns-clause-unmoved : goal.returns-clause-unmoved
returns-clause-unmoved g c = λ same s t a. image_unmoved (value_in same s) t a

pub returns-clause-rigid : goal.returns-clause-rigid
returns-clause-rigid g c = λ same s t none. image_rigid (value_in same s) t none
