use Rattle.std.proofs.lemmas.Result.{err_from_is_err_and}
use Rattle.ab_grammar.proofs.Rows.{monotone}
use Rattle.ab_grammar.specs.Language.{Expression}
use Rattle.ab_grammar.proofs.Following.{Followed, BeforeStop}
use Rattle.ab_grammar.proofs.Beginnings.{followed_by_stop}
use Rattle.ab_syntax.proofs.Passing.{refused_on, refused_first, refused_fewer}
use Rattle.ab_grammar.proofs.Choosing.{fewer_reads}
use Rattle.ab_syntax.proofs.proof_row.monotone.Goals as goal

pub returns-in_err-name : goal.returns-in_err-name
returns-in_err-name c =
    let p = err_from_is_err_and c.from_residual.result c.from_residual.ensures.1 in
    rw (p.1, p.2) (refused_first monotone _ _ _ c.in_err-name.ensures)

pub returns-in_err-read_expression : goal.returns-in_err-read_expression
returns-in_err-read_expression c =
    let p = err_from_is_err_and c.from_residual-in_err-read_expression.result c.from_residual-in_err-read_expression.ensures.1 in
    rw (p.1, p.2) (refused_on (monotone.first_read _ _ _ c.in_ok-name.ensures) _ _ (refused_fewer Expression Followed BeforeStop followed_by_stop _ _ _ c.in_err-read_expression.ensures))

pub returns : goal.returns
returns c = (monotone.first_read _ _ _ c.in_ok-name.ensures).reads _ _ (fewer_reads Expression Followed BeforeStop followed_by_stop _ _ _ c.in_ok-read_expression.ensures)
