use Rattle.std.proofs.Common.{take}
use Rattle.ab_expressions.specs.Reader.{AreSeen}
use Rattle.ab_expressions.proofs.text.see_all.Given as goal

abbrev pub invariant-loop-token : goal.invariant-loop-token
invariant-loop-token l = AreSeen l.bytes l.origin (take l.token-index l.tokens) l.all.items
