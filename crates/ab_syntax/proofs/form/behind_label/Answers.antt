use Rattle.std.proofs.Common.{◌≡◌, false, sym, ◌∙◌, ap}
use Rattle.ab_grammar.specs.CommandTable.{takes_label}
use Rattle.ab_syntax.specs.declared.command_heads.Opening.TheVariants.{Proof}
use Rattle.ab_syntax.specs.Commands.{proof_command_of}
use Rattle.ab_expressions.specs.Reader.{rest}
use Rattle.ab_syntax.proofs.Chosen.{labelled_from, none_labelled}
use Rattle.ab_syntax.proofs.Passing.{found_on}
use Rattle.ab_expressions.proofs.Places.{rest_key}
use Rattle.ab_syntax.proofs.form.behind_label.Goals as goal
use Rattle.ab_syntax.proofs.form.behind_label.Goals.{in_default-via-in-Proof+else-takes_label, in_default-via-in_default}

pub returns-in-Proof : goal.returns-in-Proof
returns-in-Proof c =
    let o = c.in-Proof.ensures in
    found_on (labelled_from _ _ o.0 c.in-Proof.head (rest_key c.args.text.now c.args.here.now o.0 o.1) o.2 (sym c.takes_label.ensures ∙ c.if-takes_label.true)) proof_command_of _ c.proof_row.result c.proof_row.ensures

pub returns-in_default : goal.returns-in_default
returns-in_default c = none_labelled (rest c.args.text.now c.args.here.now) c.opening_at.result c.opening_at.ensures (λ h e t. elim c.in_default.branch [
  | in_default-via-in-Proof+else-takes_label w ↦
      let both : Proof w.in-Proof.head ≡ Proof h = sym w.in-Proof.is ∙ e in
      let same : w.in-Proof.head ≡ h = cc in
      let no : false ≡ takes_label h = sym w.if-takes_label.false ∙ w.takes_label.ensures ∙ ap takes_label same in
      absurd (cc)
  | in_default-via-in_default w ↦ w.in_default.not-Proof h e
])
