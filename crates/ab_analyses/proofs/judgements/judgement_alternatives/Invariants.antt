use Rattle.std.proofs.Common.{◌≤◌, take}
use Rattle.ab_unify.specs.Problem.{cells_read}
use Rattle.ab_alternatives.specs.CaseSteps.{IsLater}
use Rattle.ab_judgements.specs.RuleWalks.{slots, IsRuled}
use Rattle.ab_analyses.specs.AlternativeReadings.{AreMade}
use Rattle.ab_analyses.proofs.NextRule.{at_places}
use Rattle.ab_analyses.proofs.judgements.judgement_alternatives.Given as goal

abbrev pub invariant-loop-place : goal.invariant-loop-place
invariant-loop-place g l =
    let u = l.initial.world in
    record {
      ruled : IsRuled u l.ruled;
      made : AreMade l.world l.list.items (at_places u l.ruled (take l.place (slots u l.ruled.judgement l.ruled.source))) (cells_read u.types u.store);
      later : IsLater u l.world;
      steps : l.initial.steps ≤ l.steps;
    }
