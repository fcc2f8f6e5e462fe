use Rattle.ab_theory.proofs.OpenedGoals.{opened_formula}
use Rattle.ab_theory.proofs.judgements.opened_goals_are_formulas.Goals as goal

pub returns : goal.returns
returns g sg cons = opened_formula sg cons
