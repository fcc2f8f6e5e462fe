use Rattle.std.proofs.Common.{◌≡◌, ◌++◌, ◌-◌, List, map}
use Rattle.ab_formulas.specs.NewNames.{Label}
use Rattle.ab_logic.specs.SequentReadings.{sequent_of}
use Rattle.ab_steps.specs.ab_kernel.specs.ab_judgements.specs.ab_alternatives.specs.ab_equations.specs.Labels.{label_of}
use Rattle.ab_conclusion.specs.InductionSizes.{AreNamedBy, label_at}
use Rattle.ab_conclusion.proofs.induction_names.hypothesis_labels.Given as goal

-- what names those that are left names all, with the names so far
abbrev pub invariant-loop-index : goal.invariant-loop-index
invariant-loop-index l = record {
  named : (more : List Label) → AreNamedBy l.word (label_at l.index (label_of l.label)) (sequent_of l.world l.with_those) (l.count - l.index) more
      → AreNamedBy l.word (label_of l.label) (sequent_of l.world l.goal) l.count (map label_of l.labels.items ++ more);
  same : (sequent_of l.world l.with_those).conclusion ≡ (sequent_of l.world l.goal).conclusion;
}
