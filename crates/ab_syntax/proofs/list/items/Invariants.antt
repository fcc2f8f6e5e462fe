use Rattle.std.proofs.Common.{length}
use Rattle.ab_expressions.specs.Reader.{rest}
use Rattle.ab_syntax.proofs.Repeating.{ItemNext}
use Rattle.ab_syntax.proofs.list.items.Given as goal

-- the items so far were read, from the first on, and the sign behind the last of them
abbrev pub invariant-loop-items : goal.invariant-loop-items
invariant-loop-items g l = ItemNext g.T.Item.list (rest l.text l.fn.here) l.items.items (rest l.text l.here)

abbrev pub decreases-loop-items : goal.decreases-loop-items
decreases-loop-items g l = length (rest l.text l.here)
