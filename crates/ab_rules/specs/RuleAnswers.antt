-- What a rule's function answers, by the rule's row.
use Rattle.std.specs.Prelude.{List, map, Result, Ok, Err}
use Rattle.std.specs.List.{All}
use Rattle.std.proofs.Common.{Vec, Global}
use Rattle.ab_term.specs.Terms.{Nominal, Read}
use Rattle.ab_norm.specs.Nominals.{nominal_of, HoldsNominal}
use Rattle.ab_unify.specs.Problem.{cells_read}
use Rattle.ab_logic.specs.Worlds.{read, Holds, declarations_of}
use Rattle.ab_logic.specs.SequentReadings.{sequent_of, HoldsSequent}
use Rattle.ab_logic.specs.declared.world.World.{World}
use Rattle.ab_logic.specs.declared.sequent.Sequent.{Sequent as Kept}
use Rattle.ab_theory.specs.Steps as plain
use Rattle.ab_theory.specs.Row.{Row, Takes, FailsFirst, Sticks}
use Rattle.ab_theory.specs.Rules.{row, by_hint}
use Rattle.ab_rules.specs.declared.replaces.Replace.{Replace}
pub use Rattle.ab_equations.specs.Labels.{label_of}
use Rattle.ab_rules.specs.Items.{list_of}
use Rattle.ab_rules.specs.declared.step.Step.{Step}
use Rattle.ab_rules.specs.declared.step.Step.TheVariants.{Initial, TrueRight, FalseLeft, AndRight, AndLeft, OrRight, OrLeft, ArrowRight, ArrowLeft, ForallRight, ForallLeft, ExistsRight, ExistsLeft, NablaRight, NablaLeft, EqualRight, EqualLeft, DefRight, DefLeft, Induction, Coinduction, CutFormula, UseTheorem, Weaken, SpecCut, SpecInst, SpecMonotone, Skip}
use Rattle.ab_rules.specs.declared.step.KernelFault.{KernelFault}
use Rattle.ab_rules.specs.declared.step.KernelFault.TheVariants.{RuleFails, NotPattern, Memory}

abbrev pub replacements : World → List Replace → List (Nominal × Read)
replacements w rs = map (λ (r : Replace). (nominal_of w.types r.from, read w r.to)) rs

-- the step that a kept one stands for
abbrev pub step_of : World → Step → plain.Step
step_of w (Initial H) = plain.initial H
step_of w TrueRight = plain.true_right
step_of w (FalseLeft H) = plain.false_left H
step_of w AndRight = plain.and_right
step_of w (AndLeft H l m) = plain.and_left H (label_of l) (label_of m)
step_of w (OrRight b) = plain.or_right b
step_of w (OrLeft H l) = plain.or_left H (label_of l)
step_of w (ArrowRight l) = plain.arrow_right (label_of l)
step_of w (ArrowLeft H l) = plain.arrow_left H (label_of l)
step_of w ForallRight = plain.for_all_right
step_of w (ForallLeft H t l) = plain.for_all_left H (read w t) (label_of l)
step_of w (ExistsRight t) = plain.exists_right (read w t)
step_of w (ExistsLeft H l) = plain.exists_left H (label_of l)
step_of w NablaRight = plain.nabla_right
step_of w (NablaLeft H l) = plain.nabla_left H (label_of l)
step_of w EqualRight = plain.equal_right
step_of w (EqualLeft H) = plain.equal_left H
step_of w (DefRight i) = plain.definition_right i
step_of w (DefLeft H l) = plain.definition_left H (label_of l)
step_of w (Induction ns ls) = plain.induction (list_of ns) (map label_of (list_of ls))
step_of w (Coinduction ls) = plain.coinduction (map label_of (list_of ls))
step_of w (CutFormula F l) = plain.cut_formula (read w F) (label_of l)
step_of w (UseTheorem n l) = plain.use_theorem n (label_of l)
step_of w (Weaken H) = plain.weaken H
step_of w (SpecCut H K l) = plain.spec_cut H K (label_of l)
step_of w (SpecInst H rs l) = plain.spec_instance H (replacements w rs) (label_of l)
step_of w (SpecMonotone H K l) = plain.spec_monotone H (read w K) (label_of l)
step_of w Skip = plain.skip

abbrev pub HoldsReplace : World → Replace → Type 0
HoldsReplace w r = HoldsNominal w.types r.from × Holds w r.to

-- the terms that it is told are there
abbrev pub HoldsStep : World → Step → Type 0
HoldsStep w (ForallLeft H t l) = Holds w t
HoldsStep w (ExistsRight t) = Holds w t
HoldsStep w (CutFormula F l) = Holds w F
HoldsStep w (SpecInst H rs l) = All (HoldsReplace w) rs
HoldsStep w (SpecMonotone H K l) = Holds w K
HoldsStep w step = Unit {0}

-- THE ANSWER IS THE ROW'S: its premises where all conditions hold, and else the first that fails; or the number of the
-- equation that is outside the patterns. Want of memory is free.
abbrev pub Answers : World → Row → Result (Vec Kept Global) KernelFault → Type 0
Answers w r (Ok v) = Takes r (map (sequent_of w) v.items) × All (HoldsSequent w) v.items
Answers w r (Err (RuleFails i)) = FailsFirst r i
Answers w r (Err (NotPattern i)) = Sticks r i
Answers w r (Err (Memory fault)) = Unit {0}

-- the row of the step at the goal, where new variables stand behind the world's cells
abbrev pub row_at : World → plain.Step → Kept → Row
row_at w step s = row (declarations_of w) (by_hint (declarations_of w) (cells_read w.types w.store)) step (sequent_of w s)

-- want of memory
abbrev pub IsMemory : {A : Type 0} → Result A KernelFault → Type 0
IsMemory (Err (Memory fault)) = Unit {0}
IsMemory _ = ⊥
