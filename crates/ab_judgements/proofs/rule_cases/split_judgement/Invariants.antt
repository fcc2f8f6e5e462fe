use Rattle.std.proofs.Common.{◌≤◌, [], take}
use Rattle.ab_alternatives.specs.CaseSteps.{IsLater, ArePassed}
use Rattle.ab_judgements.specs.RuleSteps.{cases_at, IsSplitting}
use Rattle.ab_judgements.specs.RuleWalks.{slots}
use Rattle.ab_judgements.proofs.rule_cases.split_judgement.Given as goal

abbrev pub invariant-loop-place : goal.invariant-loop-place
invariant-loop-place g l = record {
  ready : IsSplitting l.initial.world l.ruled l.goal l.rest;
  passed : ArePassed l.initial.world [] (cases_at l.initial.world l.ruled l.goal l.rest l.name (take l.place (slots l.initial.world l.ruled.judgement l.ruled.source))) l.world l.goals.items;
  later : IsLater l.initial.world l.world;
  counted : l.initial.steps ≤ l.steps;
}
