use Rattle.ab_search_answers.proofs.Derived.{closed_derived}
use Rattle.ab_search_answers.proofs.laws.closed_goals_are_derived.Goals as goal

pub returns : goal.returns
returns c = λ D cells depth s ls sentences defs program has defined is are unmarked none l e. closed_derived D sentences defs program has defined none cells depth s is are unmarked ls l e
