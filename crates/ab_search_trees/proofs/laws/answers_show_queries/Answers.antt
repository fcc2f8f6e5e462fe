use Rattle.ab_search_trees.proofs.Queried.{answers_show_query}
use Rattle.ab_search_trees.proofs.laws.answers_show_queries.Goals as goal

pub returns : goal.returns
returns c = λ D cells depth s E ls last defs program has_list is are none_given none_named asks l m. answers_show_query D defs program has_list cells depth s is are none_given none_named E asks ls l last m
