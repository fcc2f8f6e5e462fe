use Rattle.ab_unhashed_goals.proofs.Commands.{leads_to_none}
use Rattle.ab_unhashed_goals.proofs.goal_laws.effects_bring_no_coinductive_judgement.Goals as goal

pub returns : goal.returns
returns c D sentences definitions none theorems l command s ps is unhashed h = leads_to_none D sentences definitions none theorems l s is unhashed command ps h
