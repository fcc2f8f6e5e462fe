use Rattle.ab_effects.proofs.MovedRules.{demand_moved}
use Rattle.ab_effects.proofs.judgements.rules_demand_the_same_by_other_numbers.Goals as goal

pub returns : goal.returns
returns g f agree = demand_moved f agree
