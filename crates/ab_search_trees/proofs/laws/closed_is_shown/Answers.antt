use Rattle.ab_search_trees.proofs.RootShown.{closed_shown}
use Rattle.ab_search_trees.proofs.laws.closed_is_shown.Goals as goal

pub returns : goal.returns
returns c = λ D cells depth s ls defs program has_list is are l e. closed_shown D cells depth s defs program has_list is are ls l e
