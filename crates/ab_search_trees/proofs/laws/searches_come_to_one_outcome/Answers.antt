use Rattle.std.proofs.Common.{refl}
use Rattle.ab_search_trees.specs.Outcomes.{outcome_of}
use Rattle.ab_search_trees.proofs.Numberings.{one_coming}
use Rattle.ab_search_trees.proofs.Some.{searched}
use Rattle.ab_search_trees.proofs.laws.searches_come_to_one_outcome.Goals as goal

pub returns-clause-some : goal.returns-clause-some
returns-clause-some c = λ D cells depth s defs is are. let ls = searched D defs cells depth s is in (outcome_of ls.0, (cells, are, ls.0, ls.1, refl))

pub returns-clause-one : goal.returns-clause-one
returns-clause-one c = λ D s u depth o p defs program first second same a b. one_coming D defs program s u first second same depth o p a b
