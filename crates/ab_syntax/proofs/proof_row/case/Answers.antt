use Rattle.std.proofs.lemmas.Result.{err_from_is_err_and}
use Rattle.ab_grammar.proofs.Rows.{case}
use Rattle.ab_syntax.proofs.Passing.{refused_on, refused_first}
use Rattle.ab_syntax.proofs.proof_row.case.Goals as goal

pub returns-in_err-name : goal.returns-in_err-name
returns-in_err-name c =
    let p = err_from_is_err_and c.from_residual.result c.from_residual.ensures.1 in
    rw (p.1, p.2) (refused_first case _ _ _ c.in_err-name.ensures)

pub returns-in_err-optional_keep : goal.returns-in_err-optional_keep
returns-in_err-optional_keep c =
    let p = err_from_is_err_and c.from_residual-in_err-optional_keep.result c.from_residual-in_err-optional_keep.ensures.1 in
    rw (p.1, p.2) (refused_on (case.first_read _ _ _ c.in_ok-name.ensures) _ _ c.in_err-optional_keep.ensures)

pub returns : goal.returns
returns c = (case.first_read _ _ _ c.in_ok-name.ensures).reads _ _ c.in_ok-optional_keep.ensures
