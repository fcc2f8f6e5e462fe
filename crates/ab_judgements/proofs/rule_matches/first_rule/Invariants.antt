use Rattle.std.proofs.Common.{◌≡◌, ◌≤◌, take, length}
use Rattle.ab_unify.specs.Problem.{cells_read}
use Rattle.ab_formulas.specs.Sequents.{Sequent}
use Rattle.ab_alternatives.specs.CaseSteps.{IsLater}
use Rattle.ab_judgement_forms.specs.JudgementReadings.{judgement_read}
use Rattle.ab_judgements.specs.RuleSteps.{NoneOf}
use Rattle.ab_judgements.specs.RuleWalks.{slots, rules_in, IsRuled}
use Rattle.ab_judgements.proofs.rule_matches.first_rule.Given as goal

abbrev pub invariant-loop-place : goal.invariant-loop-place
invariant-loop-place g l = record {
  ruled : IsRuled l.initial.world l.ruled;
  later : IsLater l.initial.world l.world;
  cells : cells_read l.world.types l.world.store ≡ cells_read l.initial.world.types l.initial.world.store;
  before : (s : Sequent) → NoneOf (cells_read l.initial.world.types l.initial.world.store) s (judgement_read l.initial.world l.ruled.judgement) (rules_in (take l.place (slots l.initial.world l.ruled.judgement l.ruled.source)));
  counted : l.number ≡ length (rules_in (take l.place (slots l.initial.world l.ruled.judgement l.ruled.source)));
  low : l.number ≤ l.place;
  steps : l.initial.steps ≤ l.steps;
}
