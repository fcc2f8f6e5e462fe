use Rattle.ab_theory.proofs.SameRules.{adds_none, adds_on, adds_behind}
use Rattle.ab_theory.proofs.judgements.growth_without_clauses_adds_up.Goals as goal

pub returns-clause-none : goal.returns-clause-none
returns-clause-none c = adds_none

pub returns-clause-more : goal.returns-clause-more
returns-clause-more c = adds_on

pub returns-clause-behind : goal.returns-clause-behind
returns-clause-behind c = adds_behind
