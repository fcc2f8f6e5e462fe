use Rattle.std.proofs.Common.{◌≡◌, map, take}
use Rattle.std.specs.List.{All}
use Rattle.ab_norm.specs.ab_store.specs.Trees.{Holds, tree_of}
use Rattle.ab_norm.specs.NodeGrowth.{AddsTypedTerms}
use Rattle.ab_judgement_forms.specs.PartWalks.{goal_inside}
use Rattle.ab_judgement_forms.proofs.focus_parts.goals_inside.Given as goal

abbrev pub invariant-loop-placed : goal.invariant-loop-placed
invariant-loop-placed l = record {
  held : All (Holds l.store) l.list.items;
  trees : map (tree_of l.types l.store) l.list.items ≡ map (goal_inside l.types l.initial.store l.count) (take l.placed-index l.goals);
  adds : AddsTypedTerms l.types l.initial.store l.store;
}
