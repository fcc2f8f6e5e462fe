use Rattle.std.specs.List.{All}
use Rattle.std.specs.Prelude.{drop}
use Rattle.std.proofs.Common.{map}
use Rattle.ab_formulas.specs.Sequents.{Sequent}
use Rattle.ab_logic.specs.SequentReadings.{HoldsSequent, sequent_of}
use Rattle.ab_logic.specs.Worlds.{Holds, read}
use Rattle.ab_logic.specs.declared.world.World.{World}
use Rattle.ab_rules.specs.RuleAnswers.{label_of}
use Rattle.ab_rules.specs.SizeSteps.{Assumes, AssumesNot}
use Rattle.ab_rules.proofs.size_rules.assume_each.Given as goal

-- what the labels and the formulas that are left do is done by all
abbrev pub invariant-loop-index : goal.invariant-loop-index
invariant-loop-index l = record {
  assumes : (w : World) (t : Sequent) → Assumes (drop l.index (map label_of l.given)) (drop l.index (map (read w) l.formulas)) (sequent_of w l.goal) t
      → Assumes (map label_of l.given) (map (read w) l.formulas) (sequent_of w l.fn.sequent) t;
  assumes_not : (w : World) → AssumesNot (drop l.index (map label_of l.given)) (drop l.index (map (read w) l.formulas)) (sequent_of w l.goal)
      → AssumesNot (map label_of l.given) (map (read w) l.formulas) (sequent_of w l.fn.sequent);
  held : (w : World) → All (Holds w) l.formulas → HoldsSequent w l.fn.sequent → HoldsSequent w l.goal;
}
