use Rattle.std.specs.Prelude.{◌≤◌}
use Rattle.ab_steps.specs.Progress.{Follows}
use Rattle.ab_search.specs.GoalCounts.{GaveWayTo}
use Rattle.ab_search.proofs.empty_lists.close_by_empty_list.Given as goal

abbrev pub invariant-loop : goal.invariant-loop
invariant-loop g l = record {
  follows : Follows l.fn.world l.fn.proof l.world l.proof;
  gave : GaveWayTo l.fn.world l.fn.proof l.world l.proof l.fn.place 1;
  steps : l.fn.steps ≤ l.steps;
}
