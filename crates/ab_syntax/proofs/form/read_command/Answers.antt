use Rattle.ab_grammar.specs.Token.{other, stop}
use Rattle.ab_grammar.proofs.WholeCommands.{whole_command}
use Rattle.ab_syntax.specs.Commands.{command_of}
use Rattle.ab_expressions.specs.Reader.{rest}
use Rattle.ab_syntax.proofs.Passing.{closed_found}
use Rattle.ab_syntax.proofs.form.read_command.Goals as goal

pub returns : goal.returns
returns c =
    closed_found (other stop) whole_command command_of (rest c.args.text.now c.args.here.now) (rest c.args.text.now c.command_form-command.new.here) (rest c.args.text.now c.close_part.new.here)
    c.command_form-command.result c.close_part.result c.command_form-command.ensures c.close_part.ensures
