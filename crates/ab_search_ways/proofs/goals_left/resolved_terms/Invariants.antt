use Rattle.std.proofs.Common.{◌≡◌, ◌≤◌, [], map, take}
use Rattle.std.specs.List.{All}
use Rattle.ab_term.specs.Types.{prop}
use Rattle.ab_norm.specs.ab_store.specs.declared.node.TermId.{TermId}
use Rattle.ab_norm.specs.ab_store.specs.Trees.{tree_of}
use Rattle.ab_norm.specs.ab_store.specs.Reading.{reading}
use Rattle.ab_norm.specs.ab_store.specs.Naming.{IsTerm}
use Rattle.ab_norm.specs.NodeGrowth.{AddsTypedTerms}
use Rattle.ab_search_ways.proofs.goals_left.resolved_terms.Given as goal

abbrev pub invariant-loop-id : goal.invariant-loop-id
invariant-loop-id g l = record {
  adds : AddsTypedTerms l.types l.fn.store l.store;
  reads : map (tree_of l.types l.store) l.list.items ≡ map (reading l.types l.fn.store) (take l.id-index l.ids);
  typed : All (λ (t : TermId). IsTerm l.types l.store [] t prop) l.list.items;
  counted : l.fn.steps ≤ l.steps;
}
