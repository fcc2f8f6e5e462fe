use Rattle.std.proofs.Common.{◌≡◌, ◌≤◌, length}
use Rattle.std.specs.List.{All}
use Rattle.ab_norm.specs.ab_store.specs.Trees.{Holds}
use Rattle.ab_norm.specs.NodeGrowth.{AddsTypedTerms}
use Rattle.ab_search_paths.proofs.likeness.resolve_terms.Given as goal

abbrev pub invariant-loop-term : goal.invariant-loop-term
invariant-loop-term g l = record {
  held : All (Holds l.store) l.list.items;
  count : length l.list.items ≡ l.term-index;
  adds : AddsTypedTerms l.types l.fn.store l.store;
  steps : l.fn.steps ≤ l.steps;
}
