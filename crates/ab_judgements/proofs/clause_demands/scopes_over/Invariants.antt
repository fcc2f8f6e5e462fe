use Rattle.std.proofs.Common.{◌≡◌, map, take}
use Rattle.std.specs.List.{All}
use Rattle.ab_norm.specs.ab_store.specs.Trees.{Holds, tree_of}
use Rattle.ab_norm.specs.NodeGrowth.{AddsTypedTerms}
use Rattle.ab_logic.specs.Worlds.{variable_at}
use Rattle.ab_judgement_forms.specs.DemandWalks.{under_variables}
use Rattle.ab_judgements.proofs.clause_demands.scopes_over.Given as goal

abbrev pub invariant-loop-goal : goal.invariant-loop-goal
invariant-loop-goal l = record {
  held : All (Holds l.store) l.list.items;
  trees : map (tree_of l.types l.store) l.list.items
      ≡ map (λ t. under_variables (map (variable_at l.types l.initial.store) l.cells) (tree_of l.types l.initial.store t)) (take l.goal-index l.goals);
  adds : AddsTypedTerms l.types l.initial.store l.store;
}
