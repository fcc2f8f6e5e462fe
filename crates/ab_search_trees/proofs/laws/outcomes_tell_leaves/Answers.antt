use Rattle.ab_search_trees.proofs.Listed.{pattern_told}
use Rattle.ab_search_trees.proofs.Telling.{closed_found, found_closed, not_found_blind}
use Rattle.ab_search_trees.proofs.laws.outcomes_tell_leaves.Goals as goal

pub returns-clause-closed : goal.returns-clause-closed
returns-clause-closed c = λ ls e. closed_found ls e

pub returns-clause-answer : goal.returns-clause-answer
returns-clause-answer c = λ ls now m. found_closed ls now m

pub returns-clause-not_found : goal.returns-clause-not_found
returns-clause-not_found c = λ ls e l m. not_found_blind ls e l m

pub returns-clause-not_pattern : goal.returns-clause-not_pattern
returns-clause-not_pattern c = λ ls i e. pattern_told ls i e
