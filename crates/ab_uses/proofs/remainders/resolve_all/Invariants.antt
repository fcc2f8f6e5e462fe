use Rattle.std.proofs.Common.{◌≡◌, ◌≤◌, map, take}
use Rattle.std.specs.List.{All}
use Rattle.ab_norm.specs.ab_store.specs.Trees.{Holds, tree_of}
use Rattle.ab_norm.specs.ab_store.specs.Reading.{reading}
use Rattle.ab_norm.specs.NodeGrowth.{AddsTypedTerms}
use Rattle.ab_uses.proofs.remainders.resolve_all.Given as goal

abbrev pub invariant-loop-term : goal.invariant-loop-term
invariant-loop-term g l = record {
  adds : AddsTypedTerms l.types l.fn.store l.store;
  held : All (Holds l.store) l.list.items;
  trees : map (tree_of l.types l.store) l.list.items ≡ map (reading l.types l.fn.store) (take l.term-index l.terms);
  steps : l.fn.steps ≤ l.steps;
}
