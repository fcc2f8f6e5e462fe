use Rattle.std.proofs.Common.{◌≤◌}
use Rattle.ab_steps.specs.ab_kernel.specs.Layout.{goals_of}
use Rattle.ab_conclusion.proofs.Introduces.{Way, left_to_do}
use Rattle.ab_conclusion.proofs.introductions.introduce.Given as goal

abbrev pub invariant-taking : goal.invariant-taking
invariant-taking g l = record {
  way : Way l.names l.fn.world l.fn.proof l.world l.proof l.given;
  steps : l.fn.steps ≤ l.steps;
}

abbrev pub decreases-taking : goal.decreases-taking
decreases-taking g l = left_to_do (goals_of l.world l.proof)
