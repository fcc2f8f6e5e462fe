use Rattle.ab_search_proofs.proofs.Connectives.{both_step, left_step, right_step, assuming_step}
use Rattle.ab_search_proofs.proofs.laws.steps_of_connectives.Goals as goal

pub returns-clause-both : goal.returns-clause-both
returns-clause-both c = λ D vs Hs C A B s l e. both_step D vs Hs C s l A B e

pub returns-clause-left : goal.returns-clause-left
returns-clause-left c = λ D vs Hs C A B s l e. left_step D vs Hs C s l A B e

pub returns-clause-right : goal.returns-clause-right
returns-clause-right c = λ D vs Hs C A B s l e. right_step D vs Hs C s l A B e

pub returns-clause-assuming : goal.returns-clause-assuming
returns-clause-assuming c = λ D vs Hs C A B s u lab x l e n. assuming_step D vs Hs C s l A B lab x u e n
