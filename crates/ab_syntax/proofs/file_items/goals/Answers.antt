use Rattle.std.proofs.lemmas.Result.{err_from_is_err_and}
use Rattle.ab_grammar.specs.Token.{comma}
use Rattle.ab_expressions.specs.Reader.{rest}
use Rattle.ab_syntax.proofs.Repeating.{taken, left_there}
use Rattle.ab_syntax.proofs.GoalLists.{first_goal, no_first_goal, next_goal, no_next_goal, last_goal}
use Rattle.ab_syntax.proofs.file_items.goals.Goals as goal

pub returns-in_err-goal : goal.returns-in_err-goal
returns-in_err-goal c =
    let p = err_from_is_err_and c.from_residual.result c.from_residual.ensures.1 in
    rw (p.1, p.2) (no_first_goal (rest c.args.text.now c.args.here.now) _ _ c.in_err-goal.ensures)

pub loop-here-init : goal.loop-here-init
loop-here-init c = first_goal (rest c.args.text.now c.args.here.now) _ _ c.in_ok-goal.ensures

pub returns-in_err-next : goal.returns-in_err-next
returns-in_err-next c =
    let p = err_from_is_err_and c.from_residual-in_err-next.result c.from_residual-in_err-next.ensures.1 in
    let there = taken comma _ _ c.takes.result c.loop-here-test.true c.takes.ensures in
    rw (p.1, p.2) (no_next_goal (rest c.args.text.now c.args.here.now) _ _ _ there c.loop-here.invariant _ _ c.in_err-next.ensures)

pub loop-here-preserved : goal.loop-here-preserved
loop-here-preserved c =
    let there = taken comma _ _ c.takes.result c.loop-here-test.true c.takes.ensures in
    next_goal (rest c.args.text.now c.args.here.now) _ _ _ there c.loop-here.invariant _ _ _ c.in_ok-goal-2.ensures c.in_ok-next.ensures

pub returns : goal.returns
returns c =
    let ks = rest c.args.text.now c.args.here.now in
    let left = left_there comma (rest c.args.text.now c.loop-here.here) (rest c.args.text.now c.takes.new.here) c.takes.result c.loop-here-test.false c.takes.ensures in
    rw left.1 (last_goal ks _ _ left.0 c.loop-here.invariant)
