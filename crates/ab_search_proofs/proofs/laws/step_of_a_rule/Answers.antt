use Rattle.ab_search_proofs.proofs.Ruled.{rule_step}
use Rattle.ab_search_proofs.proofs.laws.step_of_a_rule.Goals as goal

pub returns : goal.returns
returns c = λ D vs Hs us C B s programs has is l i. rule_step D programs has vs Hs C s is l us B i
