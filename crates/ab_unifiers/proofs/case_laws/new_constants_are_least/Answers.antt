use Rattle.ab_unifiers.proofs.Matching.{new_is_new}
use Rattle.ab_unifiers.proofs.Ordered.{new_is_least}
use Rattle.ab_unifiers.proofs.case_laws.new_constants_are_least.Goals as goal

pub returns-clause-new : goal.returns-clause-new
returns-clause-new g = λ held A. new_is_new held A

pub returns-clause-least : goal.returns-clause-least
returns-clause-least g = λ held A i low high. new_is_least held A i low high
