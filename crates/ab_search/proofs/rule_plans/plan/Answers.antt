use Rattle.std.specs.List.{All}
use Rattle.std.proofs.Common.{sym, subst}
use Rattle.ab_logic.specs.Worlds.{Holds}
use Rattle.ab_logic.proofs.Growing.{still_held}
use Rattle.ab_search_paths.specs.Parts.{HoldsRuleTerms}
use Rattle.ab_search.proofs.RulePlans.{later_twice, terms_held, path_then}
use Rattle.ab_search_paths.proofs.Staying.{stand_ins_then}
use Rattle.ab_search.proofs.rule_plans.plan.Goals as goal

pub plan_with_terms-requires-clause-goal : goal.plan_with_terms-requires-clause-goal
plan_with_terms-requires-clause-goal g c = still_held c.args.world.now c.rule_goal.new.world c.rule_goal.ensures.later.grows c.args.goal.now c.requires.goal

pub plan_with_terms-requires-clause-stand_ins : goal.plan_with_terms-requires-clause-stand_ins
plan_with_terms-requires-clause-stand_ins g c =
    let l = c.rule_goal.ensures.later in
    stand_ins_then c.args.world.now c.rule_goal.new.world l.grows l.declared c.args.stand_ins.now c.requires.stand_ins

pub plan_with_terms-requires-clause-terms : goal.plan_with_terms-requires-clause-terms
plan_with_terms-requires-clause-terms g c =
    let v = c.rule_goal.new.world in
    let l = c.rule_goal.ensures.later in
    subst (All (Holds v)) (sym c.deref-in-Given.ensures.value)
    (terms_held v c.in-Given.terms.items
    (subst (HoldsRuleTerms v) c.in-Given.is (c.in_ok-terms.ensures v (path_then c.args.world.now v l.grows l.declared c.args.rule.now c.args.behind.now c.requires.path))))

pub plan_with_hypothesis-requires-clause-goal : goal.plan_with_hypothesis-requires-clause-goal
plan_with_hypothesis-requires-clause-goal g c = still_held c.args.world.now c.rule_goal.new.world c.rule_goal.ensures.later.grows c.args.goal.now c.requires.goal

pub plan_with_hypothesis-requires-clause-stand_ins : goal.plan_with_hypothesis-requires-clause-stand_ins
plan_with_hypothesis-requires-clause-stand_ins g c =
    let l = c.rule_goal.ensures.later in
    stand_ins_then c.args.world.now c.rule_goal.new.world l.grows l.declared c.args.stand_ins.now c.requires.stand_ins

pub plan_with_hypothesis-requires-clause-found : goal.plan_with_hypothesis-requires-clause-found
plan_with_hypothesis-requires-clause-found g c =
    let v = c.rule_goal.new.world in
    let l = c.rule_goal.ensures.later in
    subst (HoldsRuleTerms v) c.in-Assumed.is (c.in_ok-terms.ensures v (path_then c.args.world.now v l.grows l.declared c.args.rule.now c.args.behind.now c.requires.path))

pub returns-in-Given-clause-later : goal.returns-in-Given-clause-later
returns-in-Given-clause-later g c =
    let l = c.rule_goal.ensures.later in
    let got = c.plan_with_terms.ensures.got in
    later_twice c.args.world.now c.rule_goal.new.world c.plan_with_terms.new.world l.grows l.declared got.grows got.declared

pub returns-in-Assumed-clause-later : goal.returns-in-Assumed-clause-later
returns-in-Assumed-clause-later g c =
    let l = c.rule_goal.ensures.later in
    let got = c.plan_with_hypothesis.ensures.got in
    later_twice c.args.world.now c.rule_goal.new.world c.plan_with_hypothesis.new.world l.grows l.declared got.grows got.declared
