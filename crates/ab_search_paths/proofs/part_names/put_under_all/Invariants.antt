use Rattle.std.proofs.Common.{◌≤◌}
use Rattle.std.specs.List.{All}
use Rattle.ab_norm.specs.ab_store.specs.Trees.{Holds}
use Rattle.ab_norm.specs.NodeGrowth.{AddsTypedTerms}
use Rattle.ab_search_paths.proofs.part_names.put_under_all.Given as goal

abbrev pub invariant-loop-term : goal.invariant-loop-term
invariant-loop-term g l = record {
  held : All (Holds l.store) l.made.items;
  adds : AddsTypedTerms l.types l.initial.store l.store;
  steps : l.initial.steps ≤ l.steps;
}
