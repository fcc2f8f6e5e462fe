use Rattle.std.specs.Prelude.{◌≤◌, length}
use Rattle.ab_steps.specs.Progress.{Follows}
use Rattle.ab_search.specs.GoalCounts.{GaveWayTo}
use Rattle.ab_search.proofs.opened_hypotheses.close_apart.Given as goal

abbrev pub invariant-loop : goal.invariant-loop
invariant-loop g l = record {
  follows : Follows l.fn.world l.fn.proof l.world l.proof;
  gave : GaveWayTo l.fn.world l.fn.proof l.world l.proof l.fn.place (length l.waiting.items);
  steps : l.fn.steps ≤ l.steps;
}
