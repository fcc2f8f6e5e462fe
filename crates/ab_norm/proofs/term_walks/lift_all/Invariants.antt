use Rattle.std.proofs.Common.{◌≡◌, ◌≤◌, map, take}
use Rattle.std.specs.List.{All}
use Rattle.ab_term.specs.Reach.{raise}
use Rattle.ab_store.specs.Trees.{Holds, tree_of}
use Rattle.ab_norm.specs.NodeGrowth.{AddsTerms}
use Rattle.ab_norm.proofs.term_walks.lift_all.Given as goal

abbrev pub invariant-loop-term : goal.invariant-loop-term
invariant-loop-term g l = record {
  adds : AddsTerms l.fn.store l.store;
  held : All (Holds l.store) l.lifted.items;
  reads : map (tree_of l.types l.store) l.lifted.items ≡ map (λ t. raise l.by 0 (tree_of l.types l.fn.store t)) (take l.term-index l.terms);
  steps : l.fn.steps ≤ l.steps;
}
