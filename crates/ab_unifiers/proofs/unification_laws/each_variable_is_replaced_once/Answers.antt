use Rattle.ab_unifiers.proofs.Once.{answer_once}
use Rattle.ab_unifiers.proofs.unification_laws.each_variable_is_replaced_once.Goals as goal

pub returns-clause-once : goal.returns-clause-once
returns-clause-once g c = λ x es cells more ys s known p. (answer_once x es cells ys known more s p).0

pub returns-clause-which : goal.returns-clause-which
returns-clause-which g c = λ x es cells more ys s known p. (answer_once x es cells ys known more s p).1
