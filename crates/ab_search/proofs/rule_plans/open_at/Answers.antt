use Rattle.ab_search_paths.proofs.Parts.{rule_stays, rule_held}
use Rattle.ab_search.proofs.RulePlans.{later_twice}
use Rattle.ab_search.proofs.rule_plans.open_at.Goals as goal

pub closed_names-requires-clause-rule : goal.closed_names-requires-clause-rule
closed_names-requires-clause-rule g c =
    let w = c.args.world.now in
    let rule = c.args.here.now in
    rule_stays w c.left_by_rule.new.world c.left_by_rule.ensures.grows rule (rule_held w c.args.ruled.now.judgement rule c.requires.here)

pub returns-in_err-closed-clause-later : goal.returns-in_err-closed-clause-later
returns-in_err-closed-clause-later g c =
    let a = c.left_by_rule.ensures in
    let b = c.closed_names.ensures in
    later_twice c.args.world.now c.left_by_rule.new.world c.closed_names.new.world a.grows a.declared b.grows b.declared

pub returns-clause-later : goal.returns-clause-later
returns-clause-later g c =
    let a = c.left_by_rule.ensures in
    let b = c.closed_names.ensures in
    later_twice c.args.world.now c.left_by_rule.new.world c.closed_names.new.world a.grows a.declared b.grows b.declared
