use Rattle.std.proofs.lemmas.Result.{err_from_is_err_and}
use Rattle.std.proofs.Common.{ap}
use Rattle.ab_grammar.specs.Token.{other, becomes}
use Rattle.ab_grammar.proofs.Following.{first, Followed, ClauseEnds}
use Rattle.ab_grammar.specs.Language.{Expression}
use Rattle.ab_grammar.proofs.Beginnings.{expression_example}
use Rattle.ab_grammar.proofs.Choices.{with_body, no_body}
use Rattle.ab_grammar.proofs.Choosing.{fewer_reads}
use Rattle.ab_grammar.proofs.Rows.{clause_end_follows}
use Rattle.ab_expressions.specs.Reader.{rest}
use Rattle.ab_syntax.proofs.Passing.{refused_on, refused_fewer}
use Rattle.ab_syntax.proofs.Repeating.{keyed, taken, left_there, key_taken}
use Rattle.ab_syntax.proofs.block.clause_body.Goals as goal

pub returns-in_err-read_expression : goal.returns-in_err-read_expression
returns-in_err-read_expression c =
    let p = err_from_is_err_and c.from_residual.result c.from_residual.ensures.1 in
    let there = taken (other becomes) (rest c.args.text.now c.args.here.now) (rest c.args.text.now c.takes.new.here) c.takes.result c.if-takes.true c.takes.ensures in
    let behind = (keyed (other becomes) Expression ClauseEnds expression_example).first_read _ _ tt (key_taken _ _ _ there) in
    rw (p.1, p.2) (refused_on (with_body (rest c.args.text.now c.args.here.now) (ap first there)) _ _ (refused_on behind _ _ (refused_fewer Expression Followed ClauseEnds clause_end_follows _ _ _ c.in_err-read_expression.ensures)))

pub returns-then-takes : goal.returns-then-takes
returns-then-takes c =
    let there = taken (other becomes) (rest c.args.text.now c.args.here.now) (rest c.args.text.now c.takes.new.here) c.takes.result c.if-takes.true c.takes.ensures in
    let behind = (keyed (other becomes) Expression ClauseEnds expression_example).first_read _ _ tt (key_taken _ _ _ there) in
    (with_body (rest c.args.text.now c.args.here.now) (ap first there)).reads _ _ (behind.reads _ _ (fewer_reads Expression Followed ClauseEnds clause_end_follows _ _ _ c.in_ok-read_expression.ensures))

pub returns : goal.returns
returns c =
    let left = left_there (other becomes) (rest c.args.text.now c.args.here.now) (rest c.args.text.now c.takes.new.here) c.takes.result c.if-takes.false c.takes.ensures in
    rw left.1 (no_body (rest c.args.text.now c.args.here.now) (left.0))
