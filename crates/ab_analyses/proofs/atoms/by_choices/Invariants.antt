use Rattle.std.proofs.Common.{◌≤◌, map, take}
use Rattle.ab_formulas.specs.Sequents.{goal_names}
use Rattle.ab_logic.specs.SequentReadings.{sequent_of}
use Rattle.ab_theory.specs.Atoms.{choices_of}
use Rattle.ab_unify.specs.Problem.{cells_read}
use Rattle.ab_alternatives.specs.AtomReadings.{defined_read}
use Rattle.ab_alternatives.specs.CaseSteps.{IsLater}
use Rattle.ab_analyses.specs.Alternatives.{by_choice, side_of}
use Rattle.ab_analyses.specs.AlternativeReadings.{AreMade}
use Rattle.ab_analyses.proofs.atoms.by_choices.Given as goal

abbrev pub invariant-loop-place : goal.invariant-loop-place
invariant-loop-place g l =
    let w = l.fn.world in
    let s = sequent_of w l.goal in
    let d = defined_read w l.atom in
    record {
      made : AreMade l.world l.list.items (map (by_choice (side_of l.on_left) s d) (take l.place (choices_of (goal_names s) d))) (cells_read w.types w.store);
      later : IsLater w l.world;
      steps : l.fn.steps ≤ l.steps;
    }
