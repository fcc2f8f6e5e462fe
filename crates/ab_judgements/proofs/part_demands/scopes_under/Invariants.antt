use Rattle.std.proofs.Common.{◌≡◌, map, take}
use Rattle.std.specs.List.{All}
use Rattle.ab_norm.specs.ab_store.specs.Trees.{Holds, tree_of}
use Rattle.ab_norm.specs.NodeGrowth.{AddsTypedTerms}
use Rattle.ab_theory.specs.Parts.{under_all}
use Rattle.ab_judgement_forms.specs.PartReadings.{name_read}
use Rattle.ab_judgements.proofs.part_demands.scopes_under.Given as goal

abbrev pub invariant-loop-goal : goal.invariant-loop-goal
invariant-loop-goal l = record {
  held : All (Holds l.store) l.list.items;
  trees : map (tree_of l.types l.store) l.list.items
      ≡ map (λ t. under_all (map (name_read l.types) l.names) (tree_of l.types l.initial.store t)) (take l.goal-index l.goals);
  adds : AddsTypedTerms l.types l.initial.store l.store;
}
