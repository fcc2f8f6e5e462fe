use Rattle.std.proofs.Common.{◌≤◌, take}
use Rattle.ab_norm.specs.NodeGrowth.{AddsTypedTerms}
use Rattle.ab_search_ways.specs.GoalsLeft.{IsResolved}
use Rattle.ab_search_ways.proofs.goals_left.add_resolved.Given as goal

abbrev pub invariant-loop-goal : goal.invariant-loop-goal
invariant-loop-goal g l = record {
  adds : AddsTypedTerms l.types l.fn.store l.store;
  resolved : IsResolved l.types l.fn.store l.store l.fn.list.items (take l.goal-index l.goals) l.list.items;
  counted : l.fn.steps ≤ l.steps;
}
