use Rattle.ab_search.proofs.MadeBeside.{only_made, made_first, gave_made_first}
use Rattle.ab_search.proofs.RulePlans.{conclusion_typed}
use Rattle.ab_search.proofs.rule_steps.take_rule.Goals as goal

pub plan-requires-clause-conclusion : goal.plan-requires-clause-conclusion
plan-requires-clause-conclusion g c =
    let w = c.args.world.now in
    let here = c.in_ok-goal.ensures in
    conclusion_typed w c.requires.world c.in_ok-goal.goal.now (here.held w c.requires.proof) (here.sequent w c.requires.world c.requires.proof)

pub plan-requires-clause-path : goal.plan-requires-clause-path
plan-requires-clause-path g c = record { values = c.requires.rule; behind = c.requires.behind }

pub returns-in_err-made-clause-follows : goal.returns-in_err-made-clause-follows
returns-in_err-made-clause-follows g c =
    let later = c.plan.ensures.later in
    only_made c.args.world.now c.plan.new.world c.args.proof.now c.requires.proof later.grows later.declared

pub returns-in-Nothing-clause-follows : goal.returns-in-Nothing-clause-follows
returns-in-Nothing-clause-follows g c =
    let later = c.plan.ensures.later in
    only_made c.args.world.now c.plan.new.world c.args.proof.now c.requires.proof later.grows later.declared

pub unfold-requires-clause-proof : goal.unfold-requires-clause-proof
unfold-requires-clause-proof g c =
    let later = c.plan.ensures.later in
    (only_made c.args.world.now c.plan.new.world c.args.proof.now c.requires.proof later.grows later.declared).proof

pub returns-in_err-unfold-in-Unfold-clause-follows : goal.returns-in_err-unfold-in-Unfold-clause-follows
returns-in_err-unfold-in-Unfold-clause-follows g c =
    let later = c.plan.ensures.later in
    made_first c.args.world.now c.plan.new.world c.unfold.new.world c.args.proof.now c.unfold.new.proof c.requires.proof later.grows later.declared c.unfold.ensures.follows

pub returns-in_ok-unfold-in-Unfold-clause-follows : goal.returns-in_ok-unfold-in-Unfold-clause-follows
returns-in_ok-unfold-in-Unfold-clause-follows g c =
    let later = c.plan.ensures.later in
    made_first c.args.world.now c.plan.new.world c.unfold.new.world c.args.proof.now c.unfold.new.proof c.requires.proof later.grows later.declared c.unfold.ensures.follows

pub returns-in_ok-unfold-in-Unfold-clause-gone : goal.returns-in_ok-unfold-in-Unfold-clause-gone
returns-in_ok-unfold-in-Unfold-clause-gone g c = λ n e.
    gave_made_first c.args.world.now c.plan.new.world c.unfold.new.world c.args.proof.now c.unfold.new.proof c.args.place 1 c.requires.proof c.plan.ensures.later.grows c.in_ok-unfold-in-Unfold.ensures.gave_way

pub close_by_row-requires-clause-proof : goal.close_by_row-requires-clause-proof
close_by_row-requires-clause-proof g c =
    let later = c.plan.ensures.later in
    (only_made c.args.world.now c.plan.new.world c.args.proof.now c.requires.proof later.grows later.declared).proof

pub returns-in_err-close_by_row-in-Assume-clause-follows : goal.returns-in_err-close_by_row-in-Assume-clause-follows
returns-in_err-close_by_row-in-Assume-clause-follows g c =
    let later = c.plan.ensures.later in
    made_first c.args.world.now c.plan.new.world c.close_by_row.new.world c.args.proof.now c.close_by_row.new.proof c.requires.proof later.grows later.declared c.close_by_row.ensures.follows

pub returns-in_ok-close_by_row-in-Assume-clause-follows : goal.returns-in_ok-close_by_row-in-Assume-clause-follows
returns-in_ok-close_by_row-in-Assume-clause-follows g c =
    let later = c.plan.ensures.later in
    made_first c.args.world.now c.plan.new.world c.close_by_row.new.world c.args.proof.now c.close_by_row.new.proof c.requires.proof later.grows later.declared c.close_by_row.ensures.follows

pub returns-in_ok-close_by_row-in-Assume-clause-closed : goal.returns-in_ok-close_by_row-in-Assume-clause-closed
returns-in_ok-close_by_row-in-Assume-clause-closed g c = λ n e.
    gave_made_first c.args.world.now c.plan.new.world c.close_by_row.new.world c.args.proof.now c.close_by_row.new.proof c.args.place 0 c.requires.proof c.plan.ensures.later.grows c.in_ok-close_by_row-in-Assume.ensures.gave_way
