use Rattle.std.proofs.Common.{map, ap}
use Rattle.ab_grammar.specs.Token.{other, with_word}
use Rattle.ab_grammar.proofs.Following.{first, BeforeStop}
use Rattle.ab_grammar.specs.CommandTable.{InstanceList}
use Rattle.ab_grammar.proofs.Rows.{instance_list_example}
use Rattle.ab_grammar.proofs.Choices.{with_instances, no_instances}
use Rattle.ab_syntax.specs.declared.command.Instance.{Instance}
use Rattle.ab_expressions.specs.declared.items.Items.{Items}
use Rattle.ab_syntax.specs.Commands.{instance_of}
use Rattle.ab_expressions.specs.Items.{list_of}
use Rattle.ab_expressions.specs.Reader.{rest}
use Rattle.ab_syntax.proofs.Passing.{found_on}
use Rattle.ab_syntax.proofs.Repeating.{keyed, taken, left_there, key_taken}
use Rattle.ab_syntax.proofs.part.optional_instances.Goals as goal

pub returns-then-takes : goal.returns-then-takes
returns-then-takes c =
    let value = λ (is : Items Instance). map instance_of (list_of is) in
    let there = taken (other with_word) (rest c.args.text.now c.args.here.now) (rest c.args.text.now c.takes.new.here) c.takes.result c.if-takes.true c.takes.ensures in
    let behind = (keyed (other with_word) (InstanceList) BeforeStop instance_list_example).first_read _ _ tt (key_taken _ _ _ there) in
    found_on (with_instances (rest c.args.text.now c.args.here.now) (ap first there)) value _ c.items.result (found_on behind value _ c.items.result c.items.ensures)

pub returns : goal.returns
returns c =
    let left = left_there (other with_word) (rest c.args.text.now c.args.here.now) (rest c.args.text.now c.takes.new.here) c.takes.result c.if-takes.false c.takes.ensures in
    rw (c.from_vec.ensures, c.new.ensures.items, left.1) (no_instances (rest c.args.text.now c.args.here.now) (left.0))
