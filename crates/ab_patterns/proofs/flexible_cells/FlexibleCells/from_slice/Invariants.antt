use Rattle.std.proofs.Common.{◌≡◌, take}
use Rattle.ab_patterns.proofs.flexible_cells.FlexibleCells.from_slice.Given as goal

abbrev pub invariant-loop-cell : goal.invariant-loop-cell
invariant-loop-cell l = l.flexible.items ≡ take l.cell-index l.cells
