use Rattle.std.proofs.Common.{◌≤◌, drop}
use Rattle.ab_steps.specs.ab_kernel.specs.Layout.{goals_of}
use Rattle.ab_conclusion.proofs.PartingGoals.{Parting, weight}
use Rattle.ab_conclusion.proofs.conjunctions.split_before.Given as goal

abbrev pub invariant-loop-place : goal.invariant-loop-place
invariant-loop-place g l = record {
  parting : Parting l.fn.world l.fn.proof l.world l.proof l.place l.behind;
  steps : l.fn.steps ≤ l.steps;
}

abbrev pub decreases-loop-place : goal.decreases-loop-place
decreases-loop-place g l = weight (drop l.place (goals_of l.world l.proof))
