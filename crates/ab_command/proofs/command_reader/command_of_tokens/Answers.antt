use Rattle.std.proofs.Common.{◌≡◌, Err, sym, ap, ◌∙◌, subst}
use Rattle.ab_syntax.specs.ab_expressions.specs.declared.fault.ParseFault.TheVariants as fault
use Rattle.ab_command.specs.declared.fault.Cause.TheVariants.{TooNested}
use Rattle.ab_command.specs.CommandReadings.{Fails, ungrammatical, too_nested}
use Rattle.ab_command.proofs.command_reader.command_of_tokens.Goals as goal

pub returns-in-Err-Syntax-clause-unread : goal.returns-in-Err-Syntax-clause-unread
returns-in-Err-Syntax-clause-unread c =
    let r : c.parse_command.result ≡ Err (fault.Syntax c.in-Err-Syntax.place) = c.in-Err-Syntax.is ∙ ap (λ f. Err f) c.in-Err-Syntax.field-0-is in
    let h = c.parse_command.ensures.syntax c.in-Err-Syntax.place r in
    ungrammatical c.args.tokens.now h.0 c.in-Err-Syntax.place c.requires h.1 h.2

pub returns-in-Err-TooNested-clause-unread : goal.returns-in-Err-TooNested-clause-unread
returns-in-Err-TooNested-clause-unread c =
    let r : c.parse_command.result ≡ Err (fault.TooNested c.in-Err-TooNested.place) = c.in-Err-TooNested.is ∙ ap (λ f. Err f) c.in-Err-TooNested.field-0-is in
    let h = c.parse_command.ensures.nested c.in-Err-TooNested.place r in
    subst (λ p. Fails c.args.bytes.now c.args.is_open (TooNested p)) (sym h.2) (too_nested c.args.tokens.now h.0 c.requires h.1)
