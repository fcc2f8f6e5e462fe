use Rattle.std.proofs.Common.{◌≢◌, ◌-◌, drop, length}
use Rattle.std.specs.List.{All}
use Rattle.ab_patterns.proofs.closed_cells.behind.Given as goal

-- none of those behind is the cell
abbrev pub invariant-loop-done : goal.invariant-loop-done
invariant-loop-done l = All (λ c. c ≢ l.cell) (drop (length l.cells - l.done) l.cells)
