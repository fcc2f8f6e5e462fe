use Rattle.std.proofs.Common.{length}
use Rattle.ab_types.proofs.Sorts.{AreLost}
use Rattle.ab_types.proofs.table.TypeTable.drop_types.Given as goal

abbrev pub invariant-loop-named : goal.invariant-loop-named
invariant-loop-named g l = AreLost l.len l.named l.initial.self l.initial.steps l.self l.steps

abbrev pub decreases-loop-named : goal.decreases-loop-named
decreases-loop-named g l = length l.self
