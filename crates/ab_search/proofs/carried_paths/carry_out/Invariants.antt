use Rattle.std.specs.Prelude.{◌≤◌, length}
use Rattle.ab_steps.specs.Progress.{Follows}
use Rattle.ab_search.specs.GoalCounts.{FirstGaveWay}
use Rattle.ab_search_paths.specs.Paths.{AreStandIns}
use Rattle.ab_search.proofs.carried_paths.carry_out.Given as goal

abbrev pub invariant-loop-place : goal.invariant-loop-place
invariant-loop-place g l = record {
  follows : Follows l.fn.world l.fn.proof l.world l.proof;
  gave_way : FirstGaveWay l.fn.world l.fn.proof l.world l.proof 1 (length l.progress.pending.items);
  stand_ins : AreStandIns l.world l.progress.stand_ins.items;
  steps : l.fn.steps ≤ l.steps;
}
