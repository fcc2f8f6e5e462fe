use Rattle.std.proofs.Common.{◌≡◌, ◌++◌, drop, sym, ◌∙◌, ap, subst, arith}
use Rattle.std.specs.List.{All}
use Rattle.ab_norm.specs.ab_store.specs.Reading.{reading}
use Rattle.ab_norm.proofs.Frame.{if_ok, typed_on}
use Rattle.ab_search_ways.specs.GoalReadings.{goal_by, IsTypedGoal}
use Rattle.ab_search_ways.specs.GoalsLeft.{IsResolved, IsUntouched}
use Rattle.ab_search_ways.specs.declared.goal.Goal.{Goal}
use Rattle.ab_search_ways.proofs.Resolved.{goal_kept, resolved_push}
use Rattle.ab_search_ways.proofs.Untouched.{left_first, left_none, resolved_end}
use Rattle.ab_search_ways.proofs.goals_left.add_touched.Goals as goal

pub unreachable-requires : goal.unreachable-requires
unreachable-requires g c =
    let none = left_none c.args.goals.now c.touched.left.now c.touched._i c.touched.invariant.behind c.in_default.ensures in
    let within = c.in_ok-count.ensures.within in
    omega (arith, none, within, c.touched-test.true)

pub resolved_goal-requires-clause-goal : goal.resolved_goal-requires-clause-goal
resolved_goal-requires-clause-goal g c =
    let types = c.args.types.now in
    let old = c.args.store.now in
    let gs = c.args.goals.now in
    let l = c.touched in
    let k = c.in-Some.goal.now in
    let at = left_first gs l.left.now l._i k c.in-Some.behind.now l.invariant.behind c.in-Some.ensures in
    goal_kept types old l.store l.invariant.adds k (subst (IsTypedGoal types old) at.1 (c.requires.goals l._i k at.0))

pub returns-in_err-resolved_goal-clause-adds : goal.returns-in_err-resolved_goal-clause-adds
returns-in_err-resolved_goal-clause-adds g c = typed_on c.args.types.now c.args.store.now c.touched.store c.resolved_goal.new.store c.touched.invariant.adds c.resolved_goal.ensures.adds

pub returns-in_err-push-clause-adds : goal.returns-in_err-push-clause-adds
returns-in_err-push-clause-adds g c = typed_on c.args.types.now c.args.store.now c.touched.store c.resolved_goal.new.store c.touched.invariant.adds c.resolved_goal.ensures.adds

pub touched-preserved : goal.touched-preserved
touched-preserved g c =
    let types = c.args.types.now in
    let old = c.args.store.now in
    let gs = c.args.goals.now in
    let l = c.touched in
    let k = c.in-Some.goal.now in
    let at = left_first gs l.left.now l._i k c.in-Some.behind.now l.invariant.behind c.in-Some.ensures in
    let new = c.resolved_goal.new.store in
    let adds = c.resolved_goal.ensures.adds in
    let made = c.in_ok-resolved_goal in
    let counted = l.invariant.counted in
    let more = c.resolved_goal.ensures.steps in
    record {
      behind = at.2;
      adds = typed_on types old l.store new l.invariant.adds adds;
      resolved = resolved_push types old l.store new l.invariant.adds adds c.args.list.now.items gs l.list.items c.push.new.self.items l._i k made.field-0 at.0 c.requires.goals
          (λ hs. made.ensures.reads hs ∙ ap (goal_by (reading types l.store) types hs) (sym at.1)) made.ensures.typed
          (made.ensures.names ∙ ap (λ (h : Goal). h.constants.items) (sym at.1)) c.in_ok-push.ensures.items l.invariant.resolved;
      counted = omega (arith, counted, more);
    }

pub returns-clause-resolved : goal.returns-clause-resolved
returns-clause-resolved g c =
    let types = c.args.types.now in
    let old = c.args.store.now in
    let gs = c.args.goals.now in
    let l = c.touched in
    let same : l._i ≡ c.in_ok-count.count = omega (arith, l.auto._i-end, c.touched-test.false) in
    let plain : All (IsUntouched types old) (drop l._i gs) = subst (λ n. All (IsUntouched types old) (drop n gs)) (sym same) (c.in_ok-count.ensures.behind types) in
    let end = resolved_end types old l.store c.requires.store l.invariant.adds c.args.list.now.items gs l.list.items l._i c.requires.goals plain l.invariant.resolved in
    if_ok c.share.result (λ kept is. subst (λ k. IsResolved types old l.store c.args.list.now.items gs (l.list.items ++ k)) (sym (is ∙ l.invariant.behind)) end) c.share.ensures
