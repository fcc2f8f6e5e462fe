use Rattle.std.proofs.Common.{sym, ap, ◌∙◌, subst, arith}
use Rattle.ab_norm.proofs.Frame.{typed_on}
use Rattle.ab_norm.specs.ab_store.specs.Reading.{reading}
use Rattle.ab_search_ways.specs.GoalReadings.{goal_by, IsTypedGoal}
use Rattle.ab_search_ways.specs.declared.goal.Goal.{Goal}
use Rattle.ab_search_ways.proofs.Resolved.{goal_kept, resolved_push}
use Rattle.ab_search_ways.proofs.goals_left.add_resolved.Goals as goal

pub resolved_goal-requires-clause-goal : goal.resolved_goal-requires-clause-goal
resolved_goal-requires-clause-goal g c =
    let types = c.args.types.now in
    let old = c.args.store.now in
    let l = c.loop-goal in
    goal_kept types old l.store l.invariant.adds c.goal-item.result (subst (IsTypedGoal types old) (sym c.goal-item.is) (c.requires.goals l.goal-index c.goal-item.result c.loop-goal-test.true))

pub returns-in_err-made-clause-adds : goal.returns-in_err-made-clause-adds
returns-in_err-made-clause-adds g c = typed_on c.args.types.now c.args.store.now c.loop-goal.store c.resolved_goal.new.store c.loop-goal.invariant.adds c.resolved_goal.ensures.adds

pub returns-in_err-push-clause-adds : goal.returns-in_err-push-clause-adds
returns-in_err-push-clause-adds g c = typed_on c.args.types.now c.args.store.now c.loop-goal.store c.resolved_goal.new.store c.loop-goal.invariant.adds c.resolved_goal.ensures.adds

pub loop-goal-preserved : goal.loop-goal-preserved
loop-goal-preserved g c =
    let types = c.args.types.now in
    let old = c.args.store.now in
    let l = c.loop-goal in
    let new = c.resolved_goal.new.store in
    let adds = c.resolved_goal.ensures.adds in
    let item = c.goal-item.result in
    let counted = l.invariant.counted in
    let more = c.resolved_goal.ensures.steps in
    record {
      adds = typed_on types old l.store new l.invariant.adds adds;
      resolved = resolved_push types old l.store new l.invariant.adds adds c.args.list.now.items c.args.goals.now l.list.items c.push.new.self.items l.goal-index item c.in_ok-made.made
          c.loop-goal-test.true c.requires.goals
          (λ hs. c.in_ok-made.ensures.reads hs ∙ ap (goal_by (reading types l.store) types hs) c.goal-item.is) c.in_ok-made.ensures.typed
          (c.in_ok-made.ensures.names ∙ ap (λ (k : Goal). k.constants.items) c.goal-item.is) c.in_ok-push.ensures.items l.invariant.resolved;
      counted = omega (arith, counted, more);
    }
