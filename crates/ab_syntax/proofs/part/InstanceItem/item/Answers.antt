use Rattle.std.proofs.lemmas.Result.{err_from_is_err_and}
use Rattle.ab_syntax.proofs.Passing.{refused_on, refused_first}
use Rattle.ab_grammar.proofs.Rows.{instance_form}
use Rattle.ab_syntax.proofs.part.InstanceItem.item.Goals as goal

pub returns-in_err-name : goal.returns-in_err-name
returns-in_err-name c =
    let p = err_from_is_err_and c.from_residual.result c.from_residual.ensures.1 in
    rw (p.1, p.2) (refused_first instance_form _ _ _ c.in_err-name.ensures)

pub returns-in_err-term : goal.returns-in_err-term
returns-in_err-term c =
    let p = err_from_is_err_and c.from_residual-in_err-term.result c.from_residual-in_err-term.ensures.1 in
    rw (p.1, p.2) (refused_on ((instance_form).first_read _ _ _ c.in_ok-name.ensures) _ _ c.in_err-term.ensures)

pub returns : goal.returns
returns c = ((instance_form).first_read _ _ _ c.in_ok-name.ensures).reads _ _ c.in_ok-term.ensures
