use Rattle.std.proofs.Common.{ap}
use Rattle.ab_grammar.specs.Token.{other, star}
use Rattle.ab_grammar.proofs.Following.{first, Anything, BeforeStop}
use Rattle.ab_grammar.specs.CommandTable.{Sign}
use Rattle.ab_grammar.proofs.Choosing.{fewer_reads}
use Rattle.ab_grammar.proofs.Choices.{split, split_all}
use Rattle.ab_expressions.specs.Reader.{rest}
use Rattle.ab_syntax.proofs.Repeating.{taken, left_there, key_taken}
use Rattle.ab_syntax.proofs.proof_row.split.Goals as goal

pub returns-then-takes : goal.returns-then-takes
returns-then-takes c =
    let there = taken (other star) (rest c.args.text.now c.args.here.now) (rest c.args.text.now c.takes.new.here) c.takes.result c.if-takes.true c.takes.ensures in
    (split_all (rest c.args.text.now c.args.here.now) (ap first there)).reads tt _ (fewer_reads (Sign star) Anything BeforeStop (λ r f. tt) _ _ _ (key_taken _ _ _ there))

pub returns : goal.returns
returns c =
    let left = left_there (other star) (rest c.args.text.now c.args.here.now) (rest c.args.text.now c.takes.new.here) c.takes.result c.if-takes.false c.takes.ensures in
    rw left.1 (split (rest c.args.text.now c.args.here.now) (left.0))
