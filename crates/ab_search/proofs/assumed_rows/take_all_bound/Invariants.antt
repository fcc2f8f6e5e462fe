use Rattle.std.specs.Prelude.{◌≤◌}
use Rattle.std.specs.List.{All}
use Rattle.ab_logic.specs.Worlds.{Holds}
use Rattle.ab_steps.specs.Progress.{Follows}
use Rattle.ab_search.specs.GoalCounts.{GaveWayTo}
use Rattle.ab_search.proofs.assumed_rows.take_all_bound.Given as goal

abbrev pub invariant-loop : goal.invariant-loop
invariant-loop g l = record {
  follows : Follows l.fn.world l.fn.proof l.world l.proof;
  gave : GaveWayTo l.fn.world l.fn.proof l.world l.proof l.fn.place 1;
  terms : All (Holds l.world) l.taken.terms.items;
  steps : l.fn.steps ≤ l.steps;
}
