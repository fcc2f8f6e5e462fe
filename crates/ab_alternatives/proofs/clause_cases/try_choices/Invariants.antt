use Rattle.std.proofs.Common.{◌≤◌, map, take}
use Rattle.ab_logic.specs.SequentReadings.{sequent_of}
use Rattle.ab_theory.specs.Analysis.{case_of}
use Rattle.ab_alternatives.specs.AtomReadings.{defined_read, choice_read}
use Rattle.ab_alternatives.specs.CaseSteps.{IsLater, ArePassed}
use Rattle.ab_alternatives.proofs.clause_cases.try_choices.Given as goal

abbrev pub invariant-loop-names : goal.invariant-loop-names
invariant-loop-names g l = record {
  passed : ArePassed l.fn.world l.fn.goals.items
      (map (λ ns. case_of (sequent_of l.fn.world l.goal) (sequent_of l.fn.world l.rest) l.name (defined_read l.fn.world l.atom) (choice_read l.fn.world l.clause ns)) (take l.names-index l.choices)) l.world l.goals.items;
  later : IsLater l.fn.world l.world;
  counted : l.fn.steps ≤ l.steps;
}
