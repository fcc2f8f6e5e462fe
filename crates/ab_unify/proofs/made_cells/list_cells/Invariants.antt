use Rattle.std.proofs.Common.{◌≡◌, ◌++◌, length}
use Rattle.ab_unify.proofs.made_cells.list_cells.Given as goal

-- those that are out, and then those that are still in
abbrev pub invariant-loop-cell : goal.invariant-loop-cell
invariant-loop-cell l = l.list.items ++ l.cells.keys ≡ l.fn.cells.keys

abbrev pub decreases-loop-cell : goal.decreases-loop-cell
decreases-loop-cell l = length l.cells.keys
