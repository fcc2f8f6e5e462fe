use Rattle.std.proofs.Common.{◌≡◌, drop, map}
use Rattle.ab_formulas.specs.Sequents.{named}
use Rattle.ab_logic.specs.SequentReadings.{hypothesis_of}
use Rattle.ab_logic.specs.declared.world.World.{World}
use Rattle.ab_logic.proofs.sequent.Sequent.look.Given as goal

abbrev pub invariant-loop-h : goal.invariant-loop-h
invariant-loop-h l = (w : World) → named (map (hypothesis_of w) l.h-items) l.name ≡ named (map (hypothesis_of w) (drop l.h-index l.h-items)) l.name
