use Rattle.std.proofs.Common.{◌≡◌, codes, map, take}
use Rattle.std.specs.List.{All}
use Rattle.ab_norm.specs.ab_store.specs.Trees.{Holds}
use Rattle.ab_norm.specs.NodeGrowth.{AddsTypedTerms}
use Rattle.ab_unifiers.specs.Clauses.{name_term}
use Rattle.ab_instances.specs.ListReadings.{names_read, trees_at}
use Rattle.ab_instances.proofs.raised_variables.as_terms.Given as goal

abbrev pub invariant-loop-a : goal.invariant-loop-a
invariant-loop-a l = record {
  held : All (Holds l.store) l.list.items;
  trees : trees_at l.types l.store l.list.items ≡ map (name_term (codes "x")) (names_read l.types (take l.a-index l.names));
  adds : AddsTypedTerms l.types l.initial.store l.store;
}
