use Rattle.std.proofs.Common.{◌≡◌, ◌++◌, length}
use Rattle.ab_unify.proofs.queues.put_back.Given as goal

abbrev pub decreases-loop-equation : goal.decreases-loop-equation
decreases-loop-equation l = length l.equations.items

abbrev pub invariant-loop-equation : goal.invariant-loop-equation
invariant-loop-equation l = l.equations.items ++ l.queue.items ≡ l.fn.equations.items ++ l.fn.queue.items
