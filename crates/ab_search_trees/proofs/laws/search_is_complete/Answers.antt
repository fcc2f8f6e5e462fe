use Rattle.ab_search_trees.proofs.Layers.{finds_layer}
use Rattle.ab_search_trees.proofs.Root.{guessed_leaf}
use Rattle.ab_search_trees.proofs.Telling.{none_left}
use Rattle.ab_search_trees.proofs.laws.search_is_complete.Goals as goal

pub returns : goal.returns
returns c = λ D cells depth s ls defs has_list is are l e n d. guessed_leaf D cells depth s is are defs (finds_layer D has_list) d ls l (none_left ls e n)
