use Rattle.std.proofs.Common.{◌≡◌, ◌++◌, length}
use Rattle.ab_norm.proofs.supports.list_constants.Given as goal

-- those that are out, and then those that are still in
abbrev pub invariant-loop-a : goal.invariant-loop-a
invariant-loop-a l = l.list.items ++ l.found.keys ≡ l.fn.found.keys

abbrev pub decreases-loop-a : goal.decreases-loop-a
decreases-loop-a l = length l.found.keys
