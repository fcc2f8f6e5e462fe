use Rattle.ab_effects.proofs.SameRules.{rules_moved, closed_rules}
use Rattle.ab_effects.proofs.judgements.judgements_have_the_same_rules_by_other_numbers.Goals as goal

pub returns-clause-rules : goal.returns-clause-rules
returns-clause-rules g = rules_moved

pub returns-clause-closed : goal.returns-clause-closed
returns-clause-closed g = closed_rules
