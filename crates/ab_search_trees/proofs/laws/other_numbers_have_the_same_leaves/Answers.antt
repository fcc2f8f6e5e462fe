use Rattle.ab_search_trees.proofs.Numberings.{search_moved, one_search}
use Rattle.ab_search_trees.proofs.laws.other_numbers_have_the_same_leaves.Goals as goal

pub returns-clause-renumbered : goal.returns-clause-renumbered
returns-clause-renumbered c = λ D f cells others depth s ls defs program r l. search_moved f D defs program cells others r depth s ls l

pub returns-clause-one : goal.returns-clause-one
returns-clause-one c = λ D s u cells others depth ls ms defs program first second same are also l m. one_search D defs program s u first second same cells others are also depth ls ms l m
