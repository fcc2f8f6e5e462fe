use Rattle.std.proofs.Common.{◌≡◌, drop, map}
use Rattle.ab_syntax.specs.Commands.{argument_of}
use Rattle.ab_logic.specs.SequentReadings.{sequent_of}
use Rattle.ab_logic.specs.declared.world.World.{World}
use Rattle.ab_effects.specs.ProofCommands.{missing}
use Rattle.ab_effects.specs.FormulaUses.{names_in}
use Rattle.ab_proofcmd.proofs.questions.first_missing.Given as goal

abbrev pub invariant-loop-argument : goal.invariant-loop-argument
invariant-loop-argument l =
    (w : World) → missing (names_in (map argument_of l.arguments)) (sequent_of w l.goal) ≡ missing (names_in (map argument_of (drop l.argument-index l.arguments))) (sequent_of w l.goal)
