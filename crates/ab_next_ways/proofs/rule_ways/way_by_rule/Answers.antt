use Rattle.std.proofs.Common.{◌-◌, Some, None, sym, ◌∙◌, ap, subst}
use Rattle.std.specs.Prelude.{IfSome, slice_get}
use Rattle.std.specs.Option.{option_map}
use Rattle.ab_logic.specs.Worlds.{declarations_of}
use Rattle.ab_judgements.specs.ab_alternatives.proofs.Passed.{later_on}
use Rattle.ab_judgements.specs.DemandReadings.{rule_read, IsRuleFor}
use Rattle.ab_judgements.specs.ab_judgement_forms.specs.JudgementReadings.{judgement_read}
use Rattle.ab_search_trees.specs.Ways.{by_rule}
use Rattle.ab_search_ways.specs.GoalReadings.{goal_read}
use Rattle.ab_search_ways.proofs.LaterWorlds.{later_goal}
use Rattle.ab_next_ways.specs.Unfoldable.{GoesByRules}
use Rattle.ab_next_ways.proofs.RuleChoice.{way_at}
use Rattle.ab_next_ways.proofs.RuleMade.{made_later}
use Rattle.ab_next_ways.proofs.rule_ways.way_by_rule.Goals as goal

pub returns-in_default-clause-made : goal.returns-in_default-clause-made
returns-in_default-clause-made g c = λ base now aside stands.
    let w = c.args.world.now in
    let none = subst (GoesByRules w c.args.goal.now) c.in_default.is c.unfolded_judgement.ensures in
    ap (λ l. slice_get l c.args.number) (none now (goal_read w base c.args.goal.now))

pub with_rules-requires-clause-judgement : goal.with_rules-requires-clause-judgement
with_rules-requires-clause-judgement g c =
    let has = subst (GoesByRules c.args.world.now c.args.goal.now) c.in-Some.is c.unfolded_judgement.ensures in has.held

pub with_rules-requires-clause-typed : goal.with_rules-requires-clause-typed
with_rules-requires-clause-typed g c =
    let has = subst (GoesByRules c.args.world.now c.args.goal.now) c.in-Some.is c.unfolded_judgement.ensures in has.typed

pub with_rules-requires-clause-rules : goal.with_rules-requires-clause-rules
with_rules-requires-clause-rules g c =
    let has = subst (GoesByRules c.args.world.now c.args.goal.now) c.in-Some.is c.unfolded_judgement.ensures in has.known

pub returns-in_default-2-clause-made : goal.returns-in_default-2-clause-made
returns-in_default-2-clause-made g c = λ base now aside stands.
    let w = c.args.world.now in
    let u = c.with_rules.new.world in
    let has = subst (GoesByRules w c.args.goal.now) c.in-Some.is c.unfolded_judgement.ensures in
    way_at w u c.with_rules.ensures.later c.args.goal.now c.in-Some.judgement has c.in_ok-ruled.ruled c.in_ok-ruled.ensures.judgement c.in_ok-ruled.ensures.ruled base now c.args.number None
    (sym (ap (option_map (rule_read u)) c.in_default-2.is) ∙ c.in_ok-rule.ensures.numbered)

pub way_of_rule-requires-clause-goal : goal.way_of_rule-requires-clause-goal
way_of_rule-requires-clause-goal g c = later_goal c.args.world.now c.with_rules.new.world c.with_rules.ensures.later.grows c.args.goal.now c.requires.goal

pub way_of_rule-requires-clause-rule : goal.way_of_rule-requires-clause-rule
way_of_rule-requires-clause-rule g c = subst (λ o. IfSome o (IsRuleFor c.with_rules.new.world c.in_ok-ruled.ruled.judgement)) c.in-Some-2.is c.in_ok-rule.ensures.fits

pub returns-clause-made : goal.returns-clause-made
returns-clause-made g c = λ base now aside stands.
    let w = c.args.world.now in
    let u = c.with_rules.new.world in
    let v = c.way_of_rule.new.world in
    let k = c.args.goal.now in
    let has = subst (GoesByRules w k) c.in-Some.is c.unfolded_judgement.ensures in
    let R = rule_read u c.in-Some-2.rule in
    let J = judgement_read u c.in_ok-ruled.ruled.judgement in (
      by_rule (declarations_of w) now (goal_read w base k) (k.depth - 1) J R,
      way_at w u c.with_rules.ensures.later k c.in-Some.judgement has c.in_ok-ruled.ruled c.in_ok-ruled.ensures.judgement c.in_ok-ruled.ensures.ruled base now c.args.number (Some R)
          (sym (ap (option_map (rule_read u)) c.in-Some-2.is) ∙ c.in_ok-rule.ensures.numbered),
      made_later w u c.with_rules.ensures.later.grows c.with_rules.ensures.cells k c.requires.goal c.args.flexible.now (λ now g. by_rule (declarations_of u) now g (k.depth - 1) J R) v c.in_ok-way.way c.in_ok-way.ensures.made base now aside stands,
    )

pub returns-in_err-way-clause-grows : goal.returns-in_err-way-clause-grows
returns-in_err-way-clause-grows g c = (later_on c.args.world.now c.with_rules.new.world c.way_of_rule.new.world c.with_rules.ensures.later c.way_of_rule.ensures.later).grows

pub returns-in_err-way-clause-declared : goal.returns-in_err-way-clause-declared
returns-in_err-way-clause-declared g c = c.way_of_rule.ensures.later.declared ∙ c.with_rules.ensures.later.declared

pub returns-clause-grows : goal.returns-clause-grows
returns-clause-grows g c = (later_on c.args.world.now c.with_rules.new.world c.way_of_rule.new.world c.with_rules.ensures.later c.way_of_rule.ensures.later).grows

pub returns-clause-declared : goal.returns-clause-declared
returns-clause-declared g c = c.way_of_rule.ensures.later.declared ∙ c.with_rules.ensures.later.declared
