use Rattle.ab_search_trees.proofs.One.{one_list}
use Rattle.ab_search_trees.proofs.Some.{searched}
use Rattle.ab_search_trees.proofs.laws.searches_have_one_tree.Goals as goal

pub returns-clause-some : goal.returns-clause-some
returns-clause-some c = λ D cells depth s defs is are. searched D defs cells depth s is

pub returns-clause-one : goal.returns-clause-one
returns-clause-one c = λ D now gs ls ms p q. one_list D p q
