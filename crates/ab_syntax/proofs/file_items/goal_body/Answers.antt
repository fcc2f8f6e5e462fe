use Rattle.std.proofs.lemmas.Result.{err_from_is_err_and}
use Rattle.std.proofs.Common.{ap}
use Rattle.ab_grammar.specs.Token.{other, from}
use Rattle.ab_grammar.specs.FileTable.{Goals}
use Rattle.ab_grammar.proofs.Following.{first, BeforeStop}
use Rattle.ab_grammar.proofs.FileRows.{goals_example, with_goals, no_goals}
use Rattle.ab_expressions.specs.Reader.{rest}
use Rattle.ab_syntax.proofs.Passing.{refused_on}
use Rattle.ab_syntax.proofs.Repeating.{keyed, taken, left_there, key_taken}
use Rattle.ab_syntax.proofs.file_items.goal_body.Goals as goal

pub returns-in_err-goals : goal.returns-in_err-goals
returns-in_err-goals c =
    let p = err_from_is_err_and c.from_residual.result c.from_residual.ensures.1 in
    let ks = rest c.args.text.now c.args.here.now in
    let there = taken (other from) ks (rest c.args.text.now c.takes.new.here) c.takes.result c.if-takes.true c.takes.ensures in
    let behind = (keyed (other from) Goals BeforeStop goals_example).first_read _ _ tt (key_taken _ _ _ there) in
    rw (p.1, p.2) (refused_on (with_goals ks (ap first there)) _ _ (refused_on behind _ _ c.in_err-goals.ensures))

pub returns-then-takes : goal.returns-then-takes
returns-then-takes c =
    let ks = rest c.args.text.now c.args.here.now in
    let there = taken (other from) ks (rest c.args.text.now c.takes.new.here) c.takes.result c.if-takes.true c.takes.ensures in
    let behind = (keyed (other from) Goals BeforeStop goals_example).first_read _ _ tt (key_taken _ _ _ there) in
    (with_goals ks (ap first there)).reads _ _ (behind.reads _ _ c.in_ok-goals.ensures)

pub returns : goal.returns
returns c =
    let ks = rest c.args.text.now c.args.here.now in
    let left = left_there (other from) ks (rest c.args.text.now c.takes.new.here) c.takes.result c.if-takes.false c.takes.ensures in
    rw left.1 (no_goals ks left.0)
