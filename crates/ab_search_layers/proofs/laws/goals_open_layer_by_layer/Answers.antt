use Rattle.ab_search_layers.proofs.Early.{goal_early, body_early}
use Rattle.ab_search_layers.proofs.Opens.{goal_opens}
use Rattle.ab_search_layers.proofs.laws.goals_open_layer_by_layer.Goals as goal

pub returns-clause-goal : goal.returns-clause-goal
returns-clause-goal c = goal_opens

pub returns-clause-early : goal.returns-clause-early
returns-clause-early c = goal_early

pub returns-clause-body : goal.returns-clause-body
returns-clause-body c = body_early
