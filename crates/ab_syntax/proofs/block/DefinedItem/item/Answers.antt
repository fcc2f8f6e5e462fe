use Rattle.std.proofs.lemmas.Result.{err_from_is_err_and}
use Rattle.ab_grammar.specs.Token.{colon}
use Rattle.ab_grammar.proofs.Rows.{declared_and, definiendum}
use Rattle.ab_expressions.specs.Reader.{rest}
use Rattle.ab_syntax.proofs.Passing.{refused_on, refused_first, closed_found}
use Rattle.ab_syntax.proofs.block.DefinedItem.item.Goals as goal

pub returns-in_err-name : goal.returns-in_err-name
returns-in_err-name c =
    let p = err_from_is_err_and c.from_residual.result c.from_residual.ensures.1 in
    let named = closed_found colon (declared_and colon) (λ x. x) (rest c.args.text.now c.args.here.now) _ _ c.take-name.result c.close_part.result c.take-name.ensures c.close_part.ensures in
    rw (p.1, p.2) (refused_first definiendum _ _ _ (rw c.in_err-name.was at named))

pub returns-in_err-ty : goal.returns-in_err-ty
returns-in_err-ty c =
    let p = err_from_is_err_and c.from_residual-in_err-ty.result c.from_residual-in_err-ty.ensures.1 in
    let named = closed_found colon (declared_and colon) (λ x. x) (rest c.args.text.now c.args.here.now) _ _ c.take-name.result c.close_part.result c.take-name.ensures c.close_part.ensures in
    rw (p.1, p.2) (refused_on (definiendum.first_read _ _ _ (rw c.in_ok-name.was at named)) _ _ c.in_err-ty.ensures)

pub returns : goal.returns
returns c =
    let named = closed_found colon (declared_and colon) (λ x. x) (rest c.args.text.now c.args.here.now) _ _ c.take-name.result c.close_part.result c.take-name.ensures c.close_part.ensures in
    (definiendum.first_read _ _ _ (rw c.in_ok-name.was at named)).reads _ _ c.in_ok-ty.ensures
