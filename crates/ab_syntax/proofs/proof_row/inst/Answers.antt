use Rattle.std.proofs.lemmas.Result.{err_from_is_err_and}
use Rattle.ab_grammar.proofs.Rows.{inst}
use Rattle.ab_syntax.proofs.Passing.{refused_on, refused_first}
use Rattle.ab_syntax.proofs.proof_row.inst.Goals as goal

pub returns-in_err-name : goal.returns-in_err-name
returns-in_err-name c =
    let p = err_from_is_err_and c.from_residual.result c.from_residual.ensures.1 in
    rw (p.1, p.2) (refused_first inst _ _ _ c.in_err-name.ensures)

pub returns-in_err-items : goal.returns-in_err-items
returns-in_err-items c =
    let p = err_from_is_err_and c.from_residual-in_err-items.result c.from_residual-in_err-items.ensures.1 in
    rw (p.1, p.2) (refused_on (inst.first_read _ _ _ c.in_ok-name.ensures) _ _ c.in_err-items.ensures)

pub returns : goal.returns
returns c = (inst.first_read _ _ _ c.in_ok-name.ensures).reads _ _ c.in_ok-items.ensures
