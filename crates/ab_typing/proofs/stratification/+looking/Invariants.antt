use Rattle.std.proofs.Common.{◌≡◌, ◌+◌, ◌*◌, map, drop}
use Rattle.ab_term.specs.Terms.{terms_of}
use Rattle.ab_store.specs.Trees.{tree_of}
use Rattle.ab_typing.proofs.ClauseBounds.{ids_bound}
use Rattle.ab_formulas.specs.Stratification.{constants_of_all}
use Rattle.ab_typing.specs.DefinitionReadings.{name_of}
use Rattle.ab_typing.specs.JudgedTerms.{AreClear, first_of}
use Rattle.ab_typing.specs.Parts.{part_of}
use Rattle.ab_typing.proofs.stratification.+looking.Given as goal

abbrev pub decreases-first_in : goal.decreases-first_in
decreases-first_in l = 3 * l.id.0 + 2

abbrev pub decreases-first_in_node : goal.decreases-first_in_node
decreases-first_in_node l = 3 * l.id.0 + 1

abbrev pub decreases-first_in_all : goal.decreases-first_in_all
decreases-first_in_all l = 3 * ids_bound l.ids.now

abbrev pub invariant-first_in_all-loop-id : goal.invariant-first_in_all-loop-id
invariant-first_in_all-loop-id l = record {
  cleared : AreClear (map (name_of l.types) l.predicates) l.types l.store l.cleared;
  so_far : first_of (map (name_of l.types) l.predicates) (constants_of_all (part_of l.initial.part) (part_of l.others) (terms_of (map (tree_of l.types l.store) l.ids)))
      ≡ first_of (map (name_of l.types) l.predicates) (constants_of_all (part_of l.part) (part_of l.others) (terms_of (map (tree_of l.types l.store) (drop l.id-index l.ids))));
}
