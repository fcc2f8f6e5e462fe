use Rattle.ab_grammar.specs.Token.{word}
use Rattle.ab_grammar.specs.CommandTable.{StandsAnywhere}
use Rattle.ab_grammar.proofs.Choosing.{one_stops}
use Rattle.ab_grammar.proofs.Shown.{placed_example}
use Rattle.ab_expressions.specs.Reader.{rest}
use Rattle.ab_syntax.proofs.WordsTaken.{word_taken, no_word_taken}
use Rattle.ab_syntax.proofs.part.keyword.Goals as goal

pub returns-then-takes_word : goal.returns-then-takes_word
returns-then-takes_word c = (word_taken c.args.expected.now _ _ c.takes_word.result c.if-takes_word.true c.takes_word.ensures).1

pub returns-else-takes_word : goal.returns-else-takes_word
returns-else-takes_word c =
    let x = c.args.expected.now in
    let left = no_word_taken x _ _ c.takes_word.result c.if-takes_word.false c.takes_word.ensures in
    rw left.1 (one_stops (StandsAnywhere (word x)) (rest c.args.text.now c.args.here.now) (placed_example (word x)) left.0)
