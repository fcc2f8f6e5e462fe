use Rattle.ab_search_proofs.proofs.Unfolds.{clause_step}
use Rattle.ab_search_proofs.proofs.laws.step_of_a_clause.Goals as goal

pub returns : goal.returns
returns c = λ D vs Hs C s d k us ns definitions is l i. clause_step D definitions vs Hs C s is l d k us ns i
