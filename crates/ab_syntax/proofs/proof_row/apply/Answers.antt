use Rattle.std.proofs.lemmas.Result.{err_from_is_err_and}
use Rattle.ab_grammar.proofs.Rows.{applied, apply}
use Rattle.ab_syntax.proofs.Passing.{refused_on, refused_first}
use Rattle.ab_syntax.proofs.proof_row.apply.Goals as goal

pub returns-in_err-name : goal.returns-in_err-name
returns-in_err-name c =
    let p = err_from_is_err_and c.from_residual.result c.from_residual.ensures.1 in
    rw (p.1, p.2) (refused_first apply _ _ _ (refused_first applied _ _ _ c.in_err-name.ensures))

pub returns-in_err-arguments : goal.returns-in_err-arguments
returns-in_err-arguments c =
    let p = err_from_is_err_and c.from_residual-in_err-arguments.result c.from_residual-in_err-arguments.ensures.1 in
    rw (p.1, p.2) (refused_first apply _ _ _ (refused_on (applied.first_read _ _ _ c.in_ok-name.ensures) _ _ c.in_err-arguments.ensures))

pub returns-in_err-instances : goal.returns-in_err-instances
returns-in_err-instances c =
    let p = err_from_is_err_and c.from_residual-in_err-instances.result c.from_residual-in_err-instances.ensures.1 in
    rw (p.1, p.2) (refused_on (apply.first_read _ _ _ ((applied.first_read _ _ _ c.in_ok-name.ensures).reads _ _ c.in_ok-arguments.ensures)) _ _ c.in_err-instances.ensures)

pub returns : goal.returns
returns c = (apply.first_read _ _ _ ((applied.first_read _ _ _ c.in_ok-name.ensures).reads _ _ c.in_ok-arguments.ensures)).reads _ _ c.in_ok-instances.ensures
