use Rattle.std.proofs.Common.{◌∙◌, sym}
use Rattle.ab_grammar.specs.CommandTable.{opens, opens_proof}
use Rattle.ab_grammar.proofs.WholeCommands.{is_label}
use Rattle.ab_syntax.proofs.command_heads.word_opening.Goals as goal

pub returns-in-Some : goal.returns-in-Some
returns-in-Some c = λ p. opens c.args.written.now p (sym c.in-Some.ensures)

pub returns-in-Some-lookup : goal.returns-in-Some-lookup
returns-in-Some-lookup c = λ p. opens_proof c.args.written.now p (sym c.in-Some-lookup.ensures)

pub returns : goal.returns
returns c = λ p. is_label c.args.written.now p (sym c.lookup.ensures ∙ c.in_default.is) (sym c.lookup-2.ensures ∙ c.in_default-lookup.is)
