use Rattle.std.proofs.Common.{◌≢◌, sym, ◌∙◌, rules, arith}
use Rattle.ab_logic.specs.Worlds.{declarations_of}
use Rattle.ab_formulas.specs.Programs.{program_in}
use Rattle.ab_theory.specs.Subjects.{a_judgement}
use Rattle.ab_judgements.specs.ab_judgement_forms.specs.JudgementReadings.{judgement_read}
use Rattle.ab_next_ways.proofs.ClauseChoice.{unfolds_so}
use Rattle.ab_next_ways.proofs.RuleChoice.{are_known, judgement_typed}
use Rattle.ab_next_ways.proofs.rule_ways.unfolded_judgement.Goals as goal

pub returns : goal.returns
returns c =
    let w = c.args.world.now in
    let j = c.in_ok-judgement.judgement in
    let held = c.in_ok-judgement.ensures.held in
    let reads = sym c.in_ok-judgement.ensures.reads in
    record {
      held = held;
      typed = judgement_typed w j held c.args.goal.now.conclusion c.requires.conclusion reads;
      known = are_known (a_judgement (judgement_read w j)) _ (c.knows_rules.ensures.yes c.if-not-knows_rules.false (program_in (declarations_of w)));
      reads = reads;
      unfolds = unfolds_so (judgement_read w j).sign c.may_be_unfolded.result c.may_be_unfolded.ensures ∙ c.if-not-may_be_unfolded.false;
      by_rules = sym c.opens_by_layers.ensures ∙ c.if-opens_by_layers.false;
      deep = (let some : c.args.goal.now.depth ≢ 0 = search rules in omega (arith, some));
    }
