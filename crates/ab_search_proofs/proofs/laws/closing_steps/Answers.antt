use Rattle.ab_search_proofs.proofs.Connectives.{truth_step, equality_step}
use Rattle.ab_search_proofs.proofs.Served.{hypothesis_step}
use Rattle.ab_search_proofs.proofs.laws.closing_steps.Goals as goal

pub returns-clause-truth : goal.returns-clause-truth
returns-clause-truth c = λ D vs Hs C s l e. truth_step D vs Hs C s l e

pub returns-clause-hypothesis : goal.returns-clause-hypothesis
returns-clause-hypothesis c = λ D vs Hs C B s is l m e serves. hypothesis_step D vs Hs C B s is l m e serves

pub returns-clause-equality : goal.returns-clause-equality
returns-clause-equality c = λ D vs Hs C t u A s l e q. equality_step D vs Hs C s l A t u e q
