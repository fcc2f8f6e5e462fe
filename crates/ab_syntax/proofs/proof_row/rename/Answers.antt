use Rattle.std.proofs.lemmas.Result.{err_from_is_err_and}
use Rattle.ab_grammar.proofs.Rows.{rename}
use Rattle.ab_grammar.proofs.Following.{Anything, BeforeStop}
use Rattle.ab_grammar.specs.CommandTable.{Name}
use Rattle.ab_syntax.proofs.Passing.{refused_on, refused_first, refused_fewer}
use Rattle.ab_grammar.proofs.Choosing.{fewer_reads}
use Rattle.ab_syntax.proofs.proof_row.rename.Goals as goal

pub returns-in_err-from : goal.returns-in_err-from
returns-in_err-from c =
    let p = err_from_is_err_and c.from_residual.result c.from_residual.ensures.1 in
    rw (p.1, p.2) (refused_first rename _ _ _ c.in_err-from.ensures)

pub returns-in_err-take : goal.returns-in_err-take
returns-in_err-take c =
    let p = err_from_is_err_and c.from_residual-in_err-take.result c.from_residual-in_err-take.ensures.1 in
    rw (p.1, p.2) (refused_on (rename.first_read _ _ _ c.in_ok-from.ensures) _ _ (refused_fewer Name Anything BeforeStop (λ r f. tt) _ _ _ c.in_err-take.ensures))

pub returns : goal.returns
returns c = (rename.first_read _ _ _ c.in_ok-from.ensures).reads _ _ (fewer_reads Name Anything BeforeStop (λ r f. tt) _ _ _ c.in_ok-take.ensures)
