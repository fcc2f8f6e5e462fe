use Rattle.std.proofs.Common.{◌++◌, true, refl, ◌∙◌, ap}
use Rattle.ab_logic.specs.Worlds.{declarations_of}
use Rattle.ab_judgements.specs.DemandReadings.{rule_read}
use Rattle.ab_judgements.specs.ab_judgement_forms.specs.JudgementReadings.{judgement_read}
use Rattle.ab_next_ways.proofs.RuleMade.{rule_made}
use Rattle.ab_next_ways.proofs.rule_ways.way_of_rule.Goals as goal

pub returns-clause-made : goal.returns-clause-made
returns-clause-made g c = λ base now aside stands.
    let w = c.args.world.now in
    let v = c.demand_above.new.world in
    let demand = c.in_ok-demand.demand in
    let only = c.in_ok-only.ensures in
    rule_made w v c.requires.ruled.world c.demand_above.ensures.later.grows (declarations_of w) c.args.goal.now c.requires.goal c.args.flexible.now
    (judgement_read w c.args.ruled.now.judgement) (rule_read w c.args.rule.now) demand c.in_ok-demand.ensures.made
    c.in_ok-only.only only.added only.constants only.conclusion base now aside stands
    c.is_by_list.result (c.is_by_list.ensures w) (only.reads v base)
    (record { flexible = c.in_ok-cells.cells; equations = demand.equations; serves = true; goals = c.in_ok-goals.goals })
    (c.in_ok-cells.ensures ∙ ap (λ l. c.args.flexible.now ++ l) c.deref.ensures.value) refl refl c.in_ok-goals.ensures.items
