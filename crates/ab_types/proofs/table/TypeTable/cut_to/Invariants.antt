use Rattle.std.proofs.Common.{length}
use Rattle.ab_types.proofs.Cutting.{IsCut}
use Rattle.ab_types.proofs.table.TypeTable.cut_to.Given as goal

abbrev pub invariant-loop-self : goal.invariant-loop-self
invariant-loop-self g l = IsCut l.len l.initial.self l.initial.steps l.self l.steps

abbrev pub decreases-loop-self : goal.decreases-loop-self
decreases-loop-self g l = length l.self
