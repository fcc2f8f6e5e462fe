use Rattle.std.proofs.Common.{map, ap}
use Rattle.ab_grammar.specs.Token.{other, to_word}
use Rattle.ab_grammar.proofs.Following.{first, Without, ArgumentsEnd}
use Rattle.ab_grammar.specs.CommandForms.{One, OneOrMore}
use Rattle.ab_grammar.specs.CommandTable.{ShowsArgument}
use Rattle.ab_grammar.proofs.Choices.{with_arguments, no_arguments}
use Rattle.ab_syntax.specs.declared.command.Argument.{Argument}
use Rattle.ab_expressions.specs.declared.items.Items.{Items}
use Rattle.ab_syntax.specs.Commands.{argument_of}
use Rattle.ab_expressions.specs.Items.{list_of}
use Rattle.ab_syntax.proofs.Examples.{some_argument}
use Rattle.ab_syntax.proofs.Followers.{no_argument_at_end}
use Rattle.ab_expressions.specs.Reader.{rest}
use Rattle.ab_syntax.proofs.Passing.{found_on, fewer_found}
use Rattle.ab_syntax.proofs.Repeating.{keyed, taken, left_there, key_taken}
use Rattle.ab_syntax.proofs.part.optional_arguments.Goals as goal

pub returns-then-takes : goal.returns-then-takes
returns-then-takes c =
    let value = λ (vs : Items Argument). map argument_of (list_of vs) in
    let there = taken (other to_word) (rest c.args.text.now c.args.here.now) (rest c.args.text.now c.takes.new.here) c.takes.result c.if-takes.true c.takes.ensures in
    let behind = (keyed (other to_word) (OneOrMore (One ShowsArgument)) ArgumentsEnd some_argument).first_read _ _ tt (key_taken _ _ _ there) in
    found_on (with_arguments (rest c.args.text.now c.args.here.now) (ap first there)) value _ c.take_some.result (found_on behind value _ c.take_some.result (fewer_found (OneOrMore (One ShowsArgument)) (Without ShowsArgument) ArgumentsEnd no_argument_at_end value _ _ c.take_some.result c.take_some.ensures))

pub returns : goal.returns
returns c =
    let left = left_there (other to_word) (rest c.args.text.now c.args.here.now) (rest c.args.text.now c.takes.new.here) c.takes.result c.if-takes.false c.takes.ensures in
    rw (c.from_vec.ensures, c.new.ensures.items, left.1) (no_arguments (rest c.args.text.now c.args.here.now) (left.0))
