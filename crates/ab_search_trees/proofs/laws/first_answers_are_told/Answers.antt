use Rattle.ab_search_trees.proofs.Listed.{these_told, but_told}
use Rattle.ab_search_trees.proofs.laws.first_answers_are_told.Goals as goal

pub returns-clause-these : goal.returns-clause-these
returns-clause-these c = λ n ls ns e. these_told n ls ns e

pub returns-clause-but_for : goal.returns-clause-but_for
returns-clause-but_for c = λ n ls i e. but_told n ls i e
