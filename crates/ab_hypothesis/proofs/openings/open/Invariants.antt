use Rattle.std.specs.Prelude.{◌≤◌, map, reverse}
use Rattle.ab_logic.specs.SequentReadings.{hypothesis_of}
use Rattle.ab_equations.specs.Labels.{label_of}
use Rattle.ab_steps.specs.Progress.{Follows}
use Rattle.ab_hypothesis.specs.OwnNames.{weight}
use Rattle.ab_hypothesis.specs.HypothesisProgress.{Pending, Opens, label_left}
use Rattle.ab_hypothesis.proofs.openings.open.Given as goal

abbrev pub invariant-loop-top : goal.invariant-loop-top
invariant-loop-top g l = record {
  follows : Follows l.fn.world l.fn.proof l.world l.proof;
  pending : Pending l.world l.proof l.place (label_of l.label) (reverse l.pending.items);
  opens : Opens l.fn.world l.fn.proof l.place (label_of l.label) (reverse l.fn.pending.items) l.world l.proof (label_left (label_of l.label) l.left) (reverse l.pending.items);
  steps : l.fn.steps ≤ l.steps;
}

abbrev pub decreases-loop-top : goal.decreases-loop-top
decreases-loop-top g l = weight (map (hypothesis_of l.world) (reverse l.pending.items))
