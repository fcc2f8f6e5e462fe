use Rattle.std.proofs.lemmas.Result.{err_from_is_err_and}
use Rattle.std.proofs.Common.{ap, codes}
use Rattle.ab_grammar.specs.Token.{other, on_word}
use Rattle.ab_grammar.proofs.Following.{first, Anything, BeforeStop}
use Rattle.ab_grammar.specs.CommandTable.{Sign, Word}
use Rattle.ab_grammar.proofs.Choosing.{fewer_reads}
use Rattle.ab_grammar.proofs.Choices.{switch_on, switch_off}
use Rattle.ab_expressions.specs.Reader.{rest}
use Rattle.ab_syntax.proofs.Passing.{refused_on, refused_fewer}
use Rattle.ab_syntax.proofs.Repeating.{taken, left_there, key_taken}
use Rattle.ab_syntax.proofs.row.switch.Goals as goal

pub returns-then-takes : goal.returns-then-takes
returns-then-takes c =
    let there = taken (other on_word) (rest c.args.text.now c.args.here.now) (rest c.args.text.now c.takes.new.here) c.takes.result c.if-takes.true c.takes.ensures in
    (switch_on (rest c.args.text.now c.args.here.now) (ap first there)).reads tt _ (fewer_reads (Sign on_word) Anything BeforeStop (λ r f. tt) _ _ _ (key_taken _ _ _ there))

pub returns-in_err-keyword : goal.returns-in_err-keyword
returns-in_err-keyword c =
    let p = err_from_is_err_and c.from_residual.result c.from_residual.ensures.1 in
    let left = left_there (other on_word) (rest c.args.text.now c.args.here.now) (rest c.args.text.now c.takes.new.here) c.takes.result c.if-takes.false c.takes.ensures in
    rw (p.1, p.2) (refused_on (switch_off (rest c.args.text.now c.args.here.now) (left.0)) _ _ (refused_fewer (Word (codes "off")) Anything BeforeStop (λ r f. tt) _ _ _ (rw left.1 at c.in_err-keyword.ensures)))

pub returns : goal.returns
returns c =
    let left = left_there (other on_word) (rest c.args.text.now c.args.here.now) (rest c.args.text.now c.takes.new.here) c.takes.result c.if-takes.false c.takes.ensures in
    (switch_off (rest c.args.text.now c.args.here.now) (left.0)).reads tt _ (fewer_reads (Word (codes "off")) Anything BeforeStop (λ r f. tt) _ _ _ (rw left.1 at c.in_ok-keyword.ensures))
