use Rattle.std.specs.Prelude.{All}
use Rattle.std.specs.Option.{option_map}
use Rattle.std.proofs.Common.{◌≡◌, ◌++◌, take, map}
use Rattle.ab_syntax.specs.Commands.{argument_of}
use Rattle.ab_logic.specs.SequentReadings.{sequent_of, HoldsSequent}
use Rattle.ab_logic.specs.Worlds.{read}
use Rattle.ab_logic.specs.declared.world.World.{World}
use Rattle.ab_uses.specs.GivenReadings.{HoldsIfAny}
use Rattle.ab_effects.specs.FormulaUses.{formulas_in}
use Rattle.ab_proofcmd.proofs.questions.add_formulas.Given as goal

abbrev pub invariant-loop-argument : goal.invariant-loop-argument
invariant-loop-argument l = record {
  reads : (w : World) → map (option_map (read w)) l.formulas.items ≡ map (option_map (read w)) l.fn.formulas.items ++ formulas_in (sequent_of w l.goal) (map argument_of (take l.argument-index l.arguments));
  held : (w : World) → HoldsSequent w l.goal → All (HoldsIfAny w) l.fn.formulas.items → All (HoldsIfAny w) l.formulas.items;
}
