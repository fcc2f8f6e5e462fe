use Rattle.std.proofs.Common.{◌≡◌, ◌⊎◌, ◌-◌, ◌≤◌, length}
use Rattle.ab_logic.specs.declared.world.World.{World as AWorld}
use Rattle.ab_theory.specs.Derivations.{undone}
use Rattle.ab_kernel.specs.Layout.{history_of, IsProof, before_steps}
use Rattle.ab_kernel.proofs.Standing.{some_world}
use Rattle.ab_steps.proofs.goal_steps.take_back.Given as goal

abbrev pub invariant-loop-steps : goal.invariant-loop-steps
invariant-loop-steps g l = record {
  undone : (w : AWorld) → history_of w l.proof ≡ undone (length (history_of w l.fn.proof).earlier - length (history_of w l.proof).earlier) (history_of w l.fn.proof);
  proof : (w : AWorld) → IsProof w l.fn.proof → IsProof w l.proof;
  layout : l.proof ≡ before_steps (length l.fn.proof.journal - length l.proof.journal) l.fn.proof;
  world : l.world ≡ l.fn.world;
  steps : l.steps ≡ l.fn.steps;
  enough : (w : AWorld) → (length (history_of w l.proof).earlier ≡ length (history_of w l.fn.proof).earlier) ⊎ (l.count ≤ length (history_of w l.proof).earlier);
  fewer : (w : AWorld) → length (history_of w l.proof).earlier ≤ length (history_of w l.fn.proof).earlier;
}

abbrev pub decreases-loop-steps : goal.decreases-loop-steps
decreases-loop-steps g l = length (history_of some_world l.proof).earlier
