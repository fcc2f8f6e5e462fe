use Rattle.std.proofs.lemmas.Result.{err_from_is_err_and}
use Rattle.ab_grammar.proofs.Rows.{backchain}
use Rattle.ab_syntax.proofs.Passing.{refused_on, refused_first}
use Rattle.ab_syntax.proofs.proof_row.backchain.Goals as goal

pub returns-in_err-name : goal.returns-in_err-name
returns-in_err-name c =
    let p = err_from_is_err_and c.from_residual.result c.from_residual.ensures.1 in
    rw (p.1, p.2) (refused_first backchain _ _ _ c.in_err-name.ensures)

pub returns-in_err-optional_instances : goal.returns-in_err-optional_instances
returns-in_err-optional_instances c =
    let p = err_from_is_err_and c.from_residual-in_err-optional_instances.result c.from_residual-in_err-optional_instances.ensures.1 in
    rw (p.1, p.2) (refused_on (backchain.first_read _ _ _ c.in_ok-name.ensures) _ _ c.in_err-optional_instances.ensures)

pub returns : goal.returns
returns c = (backchain.first_read _ _ _ c.in_ok-name.ensures).reads _ _ c.in_ok-optional_instances.ensures
