use Rattle.ab_expressions.specs.Kinds.{key_of}
use Rattle.ab_expressions.proofs.Places.{rest_key}
use Rattle.ab_expressions.proofs.text.takes.Goals as goal

pub returns-then-there : goal.returns-then-there
returns-then-there c = rw c.if-there.true (rest_key c.args.text.now c.args.here.now (key_of c.args.key) (c.is_next-there.ensures.next.0 c.if-there.true))
