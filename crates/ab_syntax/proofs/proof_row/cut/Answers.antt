use Rattle.std.proofs.lemmas.Result.{err_from_is_err_and}
use Rattle.ab_grammar.proofs.Rows.{cut}
use Rattle.ab_grammar.proofs.Following.{Anything, BeforeStop}
use Rattle.ab_grammar.specs.CommandTable.{Name}
use Rattle.ab_syntax.proofs.Passing.{refused_on, refused_first, refused_fewer}
use Rattle.ab_grammar.proofs.Choosing.{fewer_reads}
use Rattle.ab_syntax.proofs.proof_row.cut.Goals as goal

pub returns-in_err-cut : goal.returns-in_err-cut
returns-in_err-cut c =
    let p = err_from_is_err_and c.from_residual.result c.from_residual.ensures.1 in
    rw (p.1, p.2) (refused_first cut _ _ _ c.in_err-cut.ensures)

pub returns-in_err-take : goal.returns-in_err-take
returns-in_err-take c =
    let p = err_from_is_err_and c.from_residual-in_err-take.result c.from_residual-in_err-take.ensures.1 in
    rw (p.1, p.2) (refused_on (cut.first_read _ _ _ c.in_ok-cut.ensures) _ _ (refused_fewer Name Anything BeforeStop (λ r f. tt) _ _ _ c.in_err-take.ensures))

pub returns : goal.returns
returns c = (cut.first_read _ _ _ c.in_ok-cut.ensures).reads _ _ (fewer_reads Name Anything BeforeStop (λ r f. tt) _ _ _ c.in_ok-take.ensures)
