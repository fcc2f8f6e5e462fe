use Rattle.std.proofs.lemmas.Result.{err_from_is_err_and}
use Rattle.ab_grammar.proofs.Rows.{induction}
use Rattle.ab_grammar.proofs.Following.{Without, BeforeStop}
use Rattle.ab_grammar.specs.CommandTable.{ShowsNumber, Numbers}
use Rattle.ab_syntax.proofs.Followers.{no_number_at_end}
use Rattle.ab_syntax.proofs.Passing.{refused_on, refused_first, refused_fewer, as_they_are}
use Rattle.ab_grammar.proofs.Choosing.{fewer_reads}
use Rattle.ab_syntax.proofs.proof_row.induction.Goals as goal

pub returns-in_err-expect : goal.returns-in_err-expect
returns-in_err-expect c =
    let p = err_from_is_err_and c.from_residual.result c.from_residual.ensures.1 in
    rw (p.1, p.2) (refused_first induction _ _ _ c.in_err-expect.ensures)

pub returns-in_err-take_some : goal.returns-in_err-take_some
returns-in_err-take_some c =
    let p = err_from_is_err_and c.from_residual-in_err-take_some.result c.from_residual-in_err-take_some.ensures.1 in
    rw (p.1, p.2) (refused_on (induction.first_read _ _ _ c.in_ok-expect.ensures) _ _ (refused_fewer Numbers (Without ShowsNumber) BeforeStop no_number_at_end _ _ _ c.in_err-take_some.ensures))

pub returns : goal.returns
returns c = (induction.first_read _ _ _ c.in_ok-expect.ensures).reads _ _ (fewer_reads Numbers (Without ShowsNumber) BeforeStop no_number_at_end _ _ _ (as_they_are Numbers (Without ShowsNumber) _ _ _ c.in_ok-take_some.ensures))
