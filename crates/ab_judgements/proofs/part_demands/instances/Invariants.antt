use Rattle.std.proofs.Common.{◌≡◌, ◌≤◌, map, take}
use Rattle.std.specs.List.{All}
use Rattle.ab_term.specs.Substitution.{instance_by_all}
use Rattle.ab_norm.specs.ab_store.specs.Trees.{Holds, tree_of}
use Rattle.ab_norm.specs.NodeGrowth.{AddsTypedTerms}
use Rattle.ab_judgements.proofs.part_demands.instances.Given as goal

abbrev pub invariant-loop-scope : goal.invariant-loop-scope
invariant-loop-scope g l = record {
  held : All (Holds l.store) l.list.items;
  trees : map (tree_of l.types l.store) l.list.items
      ≡ map (λ t. instance_by_all (tree_of l.types l.initial.store t) (map (tree_of l.types l.initial.store) l.terms)) (take l.scope-index l.scopes);
  adds : AddsTypedTerms l.types l.initial.store l.store;
  steps : l.initial.steps ≤ l.steps;
}
