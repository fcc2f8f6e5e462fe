use Rattle.std.proofs.Common.{◌*◌, ◌+◌, length}
use Rattle.ab_inference.specs.Solutions.{loose}
use Rattle.ab_inference.proofs.Working.{Working}
use Rattle.ab_inference.proofs.type_unification.unify.Given as goal

abbrev pub invariant-loop-next : goal.invariant-loop-next
invariant-loop-next l = Working l.types l.fn.shapes l.fn.wanted l.shapes l.work.items

abbrev pub decreases-loop-next : goal.decreases-loop-next
decreases-loop-next l = 2 * loose l.shapes + length l.work.items
