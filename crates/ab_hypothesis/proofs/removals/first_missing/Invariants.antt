use Rattle.std.proofs.Common.{◌≡◌, drop}
use Rattle.ab_logic.specs.SequentReadings.{sequent_of}
use Rattle.ab_logic.specs.declared.world.World.{World}
use Rattle.ab_effects.specs.ProofCommands.{missing}
use Rattle.ab_hypothesis.proofs.removals.first_missing.Given as goal

abbrev pub invariant-loop-name : goal.invariant-loop-name
invariant-loop-name l = (w : World) → missing l.names (sequent_of w l.sequent) ≡ missing (drop l.name-index l.names) (sequent_of w l.sequent)
