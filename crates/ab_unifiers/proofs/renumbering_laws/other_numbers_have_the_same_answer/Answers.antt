use Rattle.ab_unifiers.proofs.Runs.{renumbered_solves, same_answers}
use Rattle.ab_unifiers.proofs.renumbering_laws.other_numbers_have_the_same_answer.Goals as goal

pub returns-clause-renumbered : goal.returns-clause-renumbered
returns-clause-renumbered g c = λ x f s others a r d. renumbered_solves f x s others a r d

pub returns-clause-alike : goal.returns-clause-alike
returns-clause-alike g c = λ x f h s r others a b p q e d k. same_answers f h x s r others a b p q e d k
