use Rattle.ab_unifiers.proofs.Unique.{unique}
use Rattle.ab_unifiers.proofs.Ending.{answered}
use Rattle.ab_unifiers.proofs.unification_laws.every_problem_has_one_answer.Goals as goal

-- src/lib.rt:8:1
pub returns-clause-some : goal.returns-clause-some
returns-clause-some g c = λ x s. answered x s

-- src/lib.rt:8:1
pub returns-clause-one : goal.returns-clause-one
returns-clause-one g c = λ x s a b p q. unique x p q
