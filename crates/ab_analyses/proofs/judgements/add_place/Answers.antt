use Rattle.std.specs.Option.{option_map}
use Rattle.std.proofs.Common.{sym, ◌∙◌, ap}
use Rattle.ab_judgements.specs.DemandReadings.{rule_read}
use Rattle.ab_judgements.specs.RuleWalks.{slots, rule_in}
use Rattle.ab_analyses.proofs.NextRule.{no_rule, one_rule}
use Rattle.ab_analyses.proofs.judgements.add_place.Goals as goal

pub returns-in_default-clause-made : goal.returns-in_default-clause-made
returns-in_default-clause-made g c = λ makes before made.
    let w = c.args.world.now in
    let x = c.args.ruled.now in
    no_rule w x c.args.list.now.items makes before made (rule_in (slots w x.judgement x.source) c.args.place)
    (sym c.in_ok-rule.ensures.reads ∙ ap (option_map (rule_read w)) c.in_default.is)

pub returns-clause-made : goal.returns-clause-made
returns-clause-made g c = λ makes before made.
    let w = c.args.world.now in
    let x = c.args.ruled.now in
    let e = c.in_ok-made.ensures in
    one_rule w x c.args.list.now.items makes before made (rule_in (slots w x.judgement x.source) c.args.place) (rule_read w c.in-Some.rule)
    (sym (ap (option_map (rule_read w)) c.in-Some.is) ∙ c.in_ok-rule.ensures.reads) c.by_rule.new.world c.by_rule.ensures.later c.push.new.self.items c.in_ok-made.made c.in_ok-push.ensures.items e.stands e.held e.cells
