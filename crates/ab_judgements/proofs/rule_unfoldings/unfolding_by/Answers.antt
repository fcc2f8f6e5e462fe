use Rattle.std.proofs.Common.{length, subst}
use Rattle.ab_theory.specs.SpecRules.{demand_of}
use Rattle.ab_judgements.specs.DemandReadings.{rule_read, IsDemanded}
use Rattle.ab_judgement_forms.specs.JudgementReadings.{judgement_read}
use Rattle.ab_judgements.proofs.LaterJudgements.{made_later}
use Rattle.ab_judgements.proofs.rule_unfoldings.unfolding_by.Goals as goal

pub returns-in_err-made-clause-later : goal.returns-in_err-made-clause-later
returns-in_err-made-clause-later g c = made_later c.args.world.now c.make_demand.new.world c.make_demand.ensures.grown c.make_demand.ensures.additions c.make_demand.ensures.grows c.requires.ruled.world

pub returns-clause-later : goal.returns-clause-later
returns-clause-later g c = made_later c.args.world.now c.make_demand.new.world c.make_demand.ensures.grown c.make_demand.ensures.additions c.make_demand.ensures.grows c.requires.ruled.world

pub returns-clause-made : goal.returns-clause-made
returns-clause-made g c =
    let w = c.args.world.now in
    subst (λ m. IsDemanded w (demand_of (length w.store.cells) m (judgement_read w c.args.ruled.now.judgement) (rule_read w c.args.rule.now)) c.make_demand.new.world c.in_ok-made.made) c.mark_above-mark.ensures c.in_ok-made.ensures.made
