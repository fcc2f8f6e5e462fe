use Rattle.std.proofs.Common.{ℕ, ap}
use Rattle.ab_grammar.proofs.Following.{first, Anything, Except}
use Rattle.ab_grammar.specs.CommandForms.{One}
use Rattle.ab_grammar.proofs.Choices.{with_keyed, no_keyed}
use Rattle.ab_expressions.specs.Kinds.{key_of}
use Rattle.ab_syntax.specs.Leaves.{ShowsInForm, example_in_form}
use Rattle.ab_expressions.specs.Reader.{rest}
use Rattle.ab_syntax.proofs.Passing.{found_on, fewer_found}
use Rattle.ab_syntax.proofs.Repeating.{keyed, taken, left_there, key_taken}
use Rattle.ab_syntax.proofs.part.number_behind.Goals as goal

pub returns-then-takes : goal.returns-then-takes
returns-then-takes c =
    let k = key_of c.args.key in
    let G = One (ShowsInForm c.args.form) in
    let value = λ (n : ℕ). n in
    let there = taken k (rest c.args.text.now c.args.here.now) (rest c.args.text.now c.takes.new.here) c.takes.result c.if-takes.true c.takes.ensures in
    let behind = (keyed k G (Except k) (example_in_form c.args.form)).first_read _ _ tt (key_taken _ _ _ there) in
    found_on (with_keyed (rest c.args.text.now c.args.here.now) c.args.absent k G (ap first there)) value _ c.take.result (found_on behind value _ c.take.result (fewer_found G Anything (Except k) (λ r f. tt) value _ _ c.take.result c.take.ensures))

pub returns : goal.returns
returns c =
    let k = key_of c.args.key in
    let left = left_there k (rest c.args.text.now c.args.here.now) (rest c.args.text.now c.takes.new.here) c.takes.result c.if-takes.false c.takes.ensures in
    rw left.1 (no_keyed (rest c.args.text.now c.args.here.now) c.args.absent k (One (ShowsInForm c.args.form)) left.0)
