use Rattle.ab_search_proofs.proofs.Constants.{constant_step}
use Rattle.ab_search_proofs.proofs.Witnesses.{term_step}
use Rattle.ab_search_proofs.proofs.Generic.{variable_step}
use Rattle.ab_search_proofs.proofs.laws.steps_of_quantifiers.Goals as goal

pub returns-clause-constant : goal.returns-clause-constant
returns-clause-constant c = λ D vs Hs C F A a s l e t out. constant_step D vs Hs C s l A F a e t out

pub returns-clause-term : goal.returns-clause-term
returns-clause-term c = λ D vs Hs C F t A s is l e typed known. term_step D vs Hs C s is l A F t e typed known

pub returns-clause-variable : goal.returns-clause-variable
returns-clause-variable c = λ D vs Hs C F A n s l e new. variable_step D vs Hs C s l A F n e new
