use Rattle.std.proofs.Common.{◌≡◌, ◌+◌, drop, get_or, length, sym, ◌∙◌, ap, subst, rules, arith}
use Rattle.std.proofs.lemmas.List.{get_or-drop, length-drop}
use Rattle.ab_search_ways.specs.GoalReadings.{IsTypedGoal}
use Rattle.ab_search_ways.specs.GoalsLeft.{IsUntouched}
use Rattle.ab_search_ways.proofs.Untouched.{left_first, left_none, one_more}
use Rattle.ab_search_ways.proofs.goals_left.count_touched.Goals as goal

pub is_touched-requires : goal.is_touched-requires
is_touched-requires c =
    let gs = c.args.goals.now in
    let g = c.in-Some.goal.now in
    let l = c.loop-goal in
    let at = left_first gs l.left.now l.number g c.in-Some.behind.now l.invariant.behind c.in-Some.ensures in
    let r = c.requires.goals in
    record { goal = (r.0, subst (IsTypedGoal r.0 c.args.store.now) at.1 (r.1 l.number g at.0)) }

pub loop-goal-preserved-then-is_touched : goal.loop-goal-preserved-then-is_touched
loop-goal-preserved-then-is_touched c =
    let gs = c.args.goals.now in
    let g = c.in-Some.goal.now in
    let l = c.loop-goal in
    let at = left_first gs l.left.now l.number g c.in-Some.behind.now l.invariant.behind c.in-Some.ensures in
    let one : c.in-Some-checked_add.next ≡ l.number + 1 = search rules in
    let here = at.0 in
    record {
      behind = at.2 ∙ ap (λ n. drop n gs) (sym one);
      within = omega (arith, here, one);
      counted = omega arith;
      between = λ types i d from to. absurd (omega (arith, from, to));
    }

pub loop-goal-preserved : goal.loop-goal-preserved
loop-goal-preserved c =
    let gs = c.args.goals.now in
    let g = c.in-Some.goal.now in
    let l = c.loop-goal in
    let at = left_first gs l.left.now l.number g c.in-Some.behind.now l.invariant.behind c.in-Some.ensures in
    let one : c.in-Some-checked_add.next ≡ l.number + 1 = search rules in
    let here = at.0 in
    record {
      behind = at.2 ∙ ap (λ n. drop n gs) (sym one);
      within = omega (arith, here, one);
      counted = omega (arith, l.invariant.counted, one);
      between = λ types. one_more (IsUntouched types c.args.store.now) gs l.count l.number c.in-Some-checked_add.next g one here at.1 (c.is_touched.ensures c.if-is_touched.false types) (l.invariant.between types);
    }

pub returns-clause-behind : goal.returns-clause-behind
returns-clause-behind c = λ types k d inside.
    let gs = c.args.goals.now in
    let l = c.loop-goal in
    let all = left_none gs l.left.now l.number l.invariant.behind c.in_default.ensures in
    let long = length-drop l.count gs in
    subst (IsUntouched types c.args.store.now) (sym (get_or-drop l.count gs k d)) (l.invariant.between types (l.count + k) d (omega arith) (omega (arith, inside, all, long)))
