use Rattle.std.proofs.Common.{List, sym, subst}
use Rattle.ab_grammar.specs.Token.{Token}
use Rattle.ab_grammar.specs.Language.{Key}
use Rattle.ab_grammar.proofs.Following.{Anything}
use Rattle.ab_grammar.proofs.Reading.{ReadsOff, StopsAt}
use Rattle.ab_grammar.proofs.Choosing.{key_reads, key_stops}
use Rattle.ab_expressions.specs.Kinds.{key_of}
use Rattle.ab_expressions.specs.Reader.{rest}
use Rattle.ab_expressions.proofs.text.expect.Goals as goal

pub returns-then-takes : goal.returns-then-takes
returns-then-takes c =
    let k = key_of c.args.key in
    let ms = rest c.args.text.now c.takes.new.here in
    let taken = rw c.if-takes.true at c.takes.ensures in
    subst (λ (w : List Token). ReadsOff (Key k) Anything w tt ms) (sym taken) (key_reads k ms)

pub returns-else-takes : goal.returns-else-takes
returns-else-takes c =
    let k = key_of c.args.key in
    let ks = rest c.args.text.now c.args.here.now in
    let left = rw c.if-takes.false at c.takes.ensures in
    subst (λ (w : List Token). StopsAt (Key k) Anything ks w) (sym left.1) (key_stops k ks left.0)
