use Rattle.ab_unifiers.proofs.Problems.{answer_typed, answer_clean, answer_unifies}
use Rattle.ab_unifiers.proofs.unification_laws.answers_unify.Goals as goal

pub returns-clause-typed : goal.returns-clause-typed
returns-clause-typed g c = λ sg x es cells more ys s typed known p. answer_typed sg x es cells ys typed known more s p

pub returns-clause-clean : goal.returns-clause-clean
returns-clause-clean g c = λ sg x es cells more ys s typed known p y u e. answer_clean sg x es cells ys typed known more s p y u e

pub returns-clause-unifies : goal.returns-clause-unifies
returns-clause-unifies g c = λ sg x es cells more ys s typed known p. answer_unifies sg x es cells ys typed known more s p
