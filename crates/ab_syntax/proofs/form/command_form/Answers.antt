use Rattle.std.proofs.lemmas.Result.{err_from_is_err_and}
use Rattle.std.proofs.Common.{◌≡◌, Some, sym, ◌∙◌, subst}
use Rattle.ab_syntax.specs.Commands.{command_of}
use Rattle.ab_syntax.specs.Openings.{BeginsNothing}
use Rattle.ab_expressions.specs.Reader.{seen, rest}
use Rattle.ab_syntax.proofs.Chosen.{label_word, nothing_chosen, plain_from, proof_from, no_colon_from, label_from}
use Rattle.ab_syntax.proofs.Passing.{refused_on, found_on}
use Rattle.ab_expressions.proofs.Places.{rest_key}
use Rattle.ab_syntax.proofs.form.command_form.Goals as goal

pub returns-in_default : goal.returns-in_default
returns-in_default c = nothing_chosen (rest c.args.text.now c.args.here.now) (λ k e. let bad = c.in_default.ensures ∙ e in absurd (cc))

pub returns-in-Plain : goal.returns-in-Plain
returns-in-Plain c =
    found_on (plain_from _ _ (seen c.in-Some.token) c.in-Plain.head (rest_key c.args.text.now c.args.here.now _ (sym c.in-Some.ensures)) c.in-Plain.ensures) command_of _ c.row.result c.row.ensures

pub returns-in_err-command-in-Proof : goal.returns-in_err-command-in-Proof
returns-in_err-command-in-Proof c =
    let p = err_from_is_err_and c.from_residual.result c.from_residual.ensures.1 in
    rw (p.1, p.2) (refused_on (proof_from _ _ (seen c.in-Some.token) c.in-Proof.head (rest_key c.args.text.now c.args.here.now _ (sym c.in-Some.ensures)) c.in-Proof.ensures) _ _ c.in_err-command-in-Proof.ensures)

pub returns-in_ok-command-in-Proof : goal.returns-in_ok-command-in-Proof
returns-in_ok-command-in-Proof c = (proof_from _ _ (seen c.in-Some.token) c.in-Proof.head (rest_key c.args.text.now c.args.here.now _ (sym c.in-Some.ensures)) c.in-Proof.ensures).reads _ _ c.in_ok-command-in-Proof.ensures

pub name_of-requires : goal.name_of-requires
name_of-requires c = label_word c.in-Some.token c.in-Some.token.written.now c.in-Label.ensures

pub returns-in_err-expect-in-Label : goal.returns-in_err-expect-in-Label
returns-in_err-expect-in-Label c =
    let p = err_from_is_err_and c.from_residual-in_err-expect-in-Label.result c.from_residual-in_err-expect-in-Label.ensures.1 in
    rw (p.1, p.2) (no_colon_from _ _ (seen c.in-Some.token) c.in-Some.token.written.now (rest_key c.args.text.now c.args.here.now _ (sym c.in-Some.ensures)) c.in-Label.ensures _ _ c.in_err-expect-in-Label.ensures)

pub returns-in_err-command-in-Label : goal.returns-in_err-command-in-Label
returns-in_err-command-in-Label c =
    let p = err_from_is_err_and c.from_residual-in_err-command-in-Label.result c.from_residual-in_err-command-in-Label.ensures.1 in
    rw (p.1, p.2) (refused_on (label_from _ _ (seen c.in-Some.token) c.in-Some.token.written.now (rest_key c.args.text.now c.args.here.now _ (sym c.in-Some.ensures)) c.in-Label.ensures _ c.in_ok-expect-in-Label.ensures) _ _ c.in_err-command-in-Label.ensures)

pub returns-in_ok-command-in-Label : goal.returns-in_ok-command-in-Label
returns-in_ok-command-in-Label c =
    rw c.in_ok-label-in-Label.ensures
    ((label_from _ _ (seen c.in-Some.token) c.in-Some.token.written.now (rest_key c.args.text.now c.args.here.now _ (sym c.in-Some.ensures)) c.in-Label.ensures _ c.in_ok-expect-in-Label.ensures).reads _ _ c.in_ok-command-in-Label.ensures)

pub returns-in-Nothing : goal.returns-in-Nothing
returns-in-Nothing c =
    nothing_chosen (rest c.args.text.now c.args.here.now) (λ k e. let both : Some (seen c.in-Some.token) ≡ Some k = c.in-Some.ensures ∙ e in let same : seen c.in-Some.token ≡ k = cc in subst BeginsNothing same c.in-Nothing.ensures)
