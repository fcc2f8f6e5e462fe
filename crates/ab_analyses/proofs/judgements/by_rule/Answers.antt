use Rattle.std.proofs.Common.{refl}
use Rattle.ab_judgements.specs.DemandReadings.{rule_read}
use Rattle.ab_judgements.specs.ab_judgement_forms.specs.JudgementReadings.{judgement_read}
use Rattle.ab_judgements.proofs.LaterJudgements.{made_later}
use Rattle.ab_analyses.specs.declared.answers.Alternative.{Alternative as Kept}
use Rattle.ab_analyses.proofs.RuleAlternatives.{rule_stands, rule_held, rule_cells}
use Rattle.ab_analyses.proofs.judgements.by_rule.Goals as goal

pub returns-in_err-demand-clause-later : goal.returns-in_err-demand-clause-later
returns-in_err-demand-clause-later g c =
    let e = c.make_demand.ensures in
    made_later c.args.world.now c.make_demand.new.world e.grown e.additions e.grows c.requires.ruled.world

pub returns-clause-later : goal.returns-clause-later
returns-clause-later g c =
    let e = c.make_demand.ensures in
    made_later c.args.world.now c.make_demand.new.world e.grown e.additions e.grows c.requires.ruled.world

pub returns-clause-stands : goal.returns-clause-stands
returns-clause-stands g c =
    let w = c.args.world.now in
    let demand = c.in_ok-demand.demand in
    let k : Kept = record { fresh = c.new.result; raised = c.new-2.result; made = demand.own; equations = demand.equations; body = demand.body } in
    rule_stands w c.make_demand.new.world (judgement_read w c.args.ruled.now.judgement) (rule_read w c.args.rule.now) demand c.in_ok-demand.ensures.made k
    (record { fresh = c.new.ensures.items; raised = c.new-2.ensures.items; made = refl; equations = refl; body = refl })

pub returns-clause-held : goal.returns-clause-held
returns-clause-held g c =
    let w = c.args.world.now in
    let demand = c.in_ok-demand.demand in
    let k : Kept = record { fresh = c.new.result; raised = c.new-2.result; made = demand.own; equations = demand.equations; body = demand.body } in
    rule_held w c.make_demand.new.world (judgement_read w c.args.ruled.now.judgement) (rule_read w c.args.rule.now) demand c.in_ok-demand.ensures.made k
    (record { fresh = c.new.ensures.items; raised = c.new-2.ensures.items; made = refl; equations = refl; body = refl })

pub returns-clause-cells : goal.returns-clause-cells
returns-clause-cells g c =
    let w = c.args.world.now in
    rule_cells w c.make_demand.new.world (judgement_read w c.args.ruled.now.judgement) (rule_read w c.args.rule.now) c.in_ok-demand.demand c.in_ok-demand.ensures.made
