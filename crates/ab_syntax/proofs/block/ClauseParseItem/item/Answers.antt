use Rattle.std.proofs.lemmas.Result.{err_from_is_err_and}
use Rattle.ab_grammar.proofs.Rows.{clause_form}
use Rattle.ab_syntax.proofs.Passing.{refused_on, refused_first}
use Rattle.ab_syntax.proofs.block.ClauseParseItem.item.Goals as goal

pub returns-in_err-head : goal.returns-in_err-head
returns-in_err-head c =
    let p = err_from_is_err_and c.from_residual.result c.from_residual.ensures.1 in
    rw (p.1, p.2) (refused_first clause_form _ _ _ c.in_err-head.ensures)

pub returns-in_err-body : goal.returns-in_err-body
returns-in_err-body c =
    let p = err_from_is_err_and c.from_residual-in_err-body.result c.from_residual-in_err-body.ensures.1 in
    rw (p.1, p.2) (refused_on (clause_form.first_read _ _ _ c.in_ok-head.ensures) _ _ c.in_err-body.ensures)

pub returns : goal.returns
returns c = rw c.place_of-place.ensures ((clause_form.first_read _ _ _ c.in_ok-head.ensures).reads _ _ c.in_ok-body.ensures)
