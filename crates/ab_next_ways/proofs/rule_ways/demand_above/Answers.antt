use Rattle.std.specs.Prelude.{IfOk}
use Rattle.std.proofs.Common.{length, subst}
use Rattle.ab_theory.specs.SpecRules.{demand_of}
use Rattle.ab_judgements.specs.DemandReadings.{rule_read, IsDemanded}
use Rattle.ab_judgements.specs.ab_judgement_forms.specs.JudgementReadings.{judgement_read}
use Rattle.ab_judgements.proofs.LaterJudgements.{made_later}
use Rattle.ab_next_ways.proofs.rule_ways.demand_above.Goals as goal

pub returns-clause-later : goal.returns-clause-later
returns-clause-later g c = made_later c.args.world.now c.make_demand.new.world c.make_demand.ensures.grown c.make_demand.ensures.additions c.make_demand.ensures.grows c.requires.ruled.world

pub returns-clause-made : goal.returns-clause-made
returns-clause-made g c =
    let w = c.args.world.now in
    subst (λ m. IfOk c.make_demand.result (IsDemanded w (demand_of (length w.store.cells) m (judgement_read w c.args.ruled.now.judgement) (rule_read w c.args.rule.now)) c.make_demand.new.world)) c.mark_above-mark.ensures c.make_demand.ensures.made
