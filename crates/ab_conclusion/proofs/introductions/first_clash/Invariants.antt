use Rattle.std.proofs.Common.{◌≡◌, [], take, drop}
use Rattle.ab_logic.specs.SequentReadings.{sequent_of}
use Rattle.ab_logic.specs.declared.world.World.{World}
use Rattle.ab_effects.specs.ProofCommands.{clashing_names}
use Rattle.ab_conclusion.proofs.introductions.first_clash.Given as goal

abbrev pub invariant-loop-place : goal.invariant-loop-place
invariant-loop-place l = record {
  noted : l.before.keys ≡ take l.place l.names;
  left : (w : World) → clashing_names (take l.place l.names) (drop l.place l.names) (sequent_of w l.goal) ≡ clashing_names [] l.names (sequent_of w l.goal);
}
