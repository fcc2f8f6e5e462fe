use Rattle.ab_unhashed_goals.proofs.Numbers.{goal_none}
use Rattle.ab_unhashed_goals.proofs.goal_laws.numbers_bring_no_coinductive_judgement.Goals as goal

pub returns : goal.returns
returns c s t e is = goal_none s t e is
