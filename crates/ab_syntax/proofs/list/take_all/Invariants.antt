use Rattle.std.proofs.Common.{length}
use Rattle.ab_expressions.specs.Reader.{rest}
use Rattle.ab_syntax.proofs.Taking.{AllTo}
use Rattle.ab_syntax.proofs.list.take_all.Given as goal

-- the items so far were read, from the first on
abbrev pub invariant-loop-values : goal.invariant-loop-values
invariant-loop-values g l = AllTo (g.S.Shown.leaf l.fn.form).shows (g.S.Shown.leaf l.fn.form).meant (rest l.text l.fn.here) l.values.items (rest l.text l.here)

abbrev pub decreases-loop-values : goal.decreases-loop-values
decreases-loop-values g l = length (rest l.text l.here)
