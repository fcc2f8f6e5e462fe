use Rattle.std.proofs.Common.{◌≤◌, [], take}
use Rattle.ab_unifiers.specs.Choices.{for_each}
use Rattle.ab_formulas.specs.CaseClauses as kept
use Rattle.ab_typing.specs.DefinitionReadings.{clause_of}
use Rattle.ab_logic.specs.SequentReadings.{sequent_of}
use Rattle.ab_alternatives.specs.AtomReadings.{defined_read}
use Rattle.ab_alternatives.specs.CaseSteps.{clause_cases, IsLater, IsReady, ArePassed}
use Rattle.ab_alternatives.proofs.all_cases.split.Given as goal

abbrev pub invariant-loop-clause : goal.invariant-loop-clause
invariant-loop-clause g l = record {
  ready : IsReady l.fn.world l.atom l.constants l.goal l.rest;
  passed : ArePassed l.fn.world []
      (for_each (λ c. clause_cases (sequent_of l.fn.world l.goal) (sequent_of l.fn.world l.rest) l.name (defined_read l.fn.world l.atom) (kept.case_of (clause_of l.fn.world.types l.fn.world.store c))) (take l.clause-index l.clause-items))
      l.world l.goals.items;
  later : IsLater l.fn.world l.world;
  counted : l.fn.steps ≤ l.steps;
}
