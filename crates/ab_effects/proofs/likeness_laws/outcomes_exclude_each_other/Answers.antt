use Rattle.ab_formulas.specs.NewNames.{IsNoVariable}
use Rattle.ab_effects.proofs.Outcomes.{goal_or_apart, goal_or_stuck, apart_or_stuck}
use Rattle.ab_effects.proofs.likeness_laws.outcomes_exclude_each_other.Goals as goal

pub returns-clause-goal_or_apart : goal.returns-clause-goal_or_apart
returns-clause-goal_or_apart c = λ D s u t r v w cells others h same are also d e. goal_or_apart D s u t r v w same cells others are also (λ k hint name. IsNoVariable k name) h d e

pub returns-clause-goal_or_stuck : goal.returns-clause-goal_or_stuck
returns-clause-goal_or_stuck c = λ D s u t r v w cells others h same are also d e. goal_or_stuck D s u t r v w same cells others are also (λ k hint name. IsNoVariable k name) h d e

pub returns-clause-apart_or_stuck : goal.returns-clause-apart_or_stuck
returns-clause-apart_or_stuck c = λ D s u t r v w cells others same are also d e. apart_or_stuck D s u t r v w same cells others are also d e
