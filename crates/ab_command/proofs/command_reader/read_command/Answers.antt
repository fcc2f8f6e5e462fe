use Rattle.std.proofs.Common.{subst}
use Rattle.ab_grammar.specs.CommandTable.{CommandText}
use Rattle.ab_grammar.specs.Language.{Accepted}
use Rattle.ab_syntax.specs.ab_expressions.specs.Tokens.{tokens_in}
use Rattle.ab_syntax.specs.Commands.{command_of}
use Rattle.ab_command.specs.CommandReadings.{not_built}
use Rattle.ab_command.proofs.command_reader.read_command.Goals as goal

pub returns-clause-unread : goal.returns-clause-unread
returns-clause-unread c =
    let ts = c.in_ok-tokens.tokens.items in
    let t = command_of c.in_ok-command.command in
    let read : Accepted CommandText (tokens_in c.args.bytes.now ts) t = subst (λ q. Accepted CommandText (tokens_in c.args.bytes.now q) t) c.deref.ensures.value c.in_ok-command.ensures.read in
    not_built ts t c.in_ok-tokens.ensures.fits read (λ b. let x = c.is_built.ensures.1 b in let y = c.if-is_built.false in absurd (cc))
