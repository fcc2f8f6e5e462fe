use Rattle.ab_search_trees.proofs.Telling.{none_left}
use Rattle.ab_search_completeness.proofs.Complete.{guessed_leaf}
use Rattle.ab_search_completeness.proofs.laws.trees_are_complete.Goals as goal

pub returns : goal.returns
returns c = λ D cells depth s ls defs programs has is are l e n firm d. guessed_leaf D defs programs has depth s is cells are firm d ls l (none_left ls e n)
