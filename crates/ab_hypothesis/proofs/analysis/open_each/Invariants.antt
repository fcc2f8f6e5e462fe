use Rattle.std.proofs.Common.{◌≤◌}
use Rattle.ab_equations.specs.Labels.{label_of}
use Rattle.ab_steps.specs.Progress.{Follows}
use Rattle.ab_hypothesis.specs.AnalysedGoals.{OpenedSoFar}
use Rattle.ab_hypothesis.proofs.analysis.open_each.Given as goal

abbrev pub invariant-loop-place : goal.invariant-loop-place
invariant-loop-place g l = record {
  follows : Follows l.fn.world l.fn.proof l.world l.proof;
  so : OpenedSoFar l.fn.world l.fn.proof (label_of l.label) l.own l.count l.world l.proof l.place;
  steps : l.fn.steps ≤ l.steps;
}
