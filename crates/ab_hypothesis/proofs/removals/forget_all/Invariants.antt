use Rattle.std.proofs.Common.{◌≡◌, ◌≤◌, List, ◌∷◌, take}
use Rattle.ab_formulas.specs.Sequents.{Sequent}
use Rattle.ab_effects.specs.ProofCommands.{cleared}
use Rattle.ab_steps.specs.Progress.{Follows}
use Rattle.ab_steps.specs.ab_kernel.specs.Layout.{goals_of}
use Rattle.ab_hypothesis.proofs.removals.forget_all.Given as goal

abbrev pub invariant-loop-name : goal.invariant-loop-name
invariant-loop-name g l = record {
  follows : Follows l.fn.world l.fn.proof l.world l.proof;
  gone : (s : Sequent) (rest : List Sequent) → goals_of l.fn.world l.fn.proof ≡ s ∷ rest → goals_of l.world l.proof ≡ cleared (take l.name-index l.names) s ∷ rest;
  steps : l.fn.steps ≤ l.steps;
}
