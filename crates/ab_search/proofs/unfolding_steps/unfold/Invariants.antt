use Rattle.std.specs.Prelude.{◌≤◌}
use Rattle.ab_steps.specs.Progress.{Follows}
use Rattle.ab_search.specs.GoalCounts.{GaveWayTo}
use Rattle.ab_search.proofs.unfolding_steps.unfold.Given as goal

abbrev pub invariant-loop-term : goal.invariant-loop-term
invariant-loop-term g l = record {
  follows : Follows l.fn.world l.fn.proof l.world l.proof;
  gave : GaveWayTo l.fn.world l.fn.proof l.world l.proof l.fn.place 1;
  steps : l.fn.steps ≤ l.steps;
}

abbrev pub invariant-loop : goal.invariant-loop
invariant-loop g l = record {
  follows : Follows l.fn.world l.fn.proof l.world l.proof;
  gave : GaveWayTo l.fn.world l.fn.proof l.world l.proof l.fn.place 1;
  steps : l.fn.steps ≤ l.steps;
}
