use Rattle.std.proofs.Common.{◌≡◌, ◌+◌, length}
use Rattle.ab_inference.specs.Assignments.{settled_at}
use Rattle.ab_declare.specs.CellGrowth.{AddsVariables}
use Rattle.ab_declare.specs.JoinedRows.{AreCells}
use Rattle.ab_declare.proofs.cells.cells_for.Given as goal

abbrev pub invariant-loop-j : goal.invariant-loop-j
invariant-loop-j l = AddsVariables l.types l.fn.store l.store
    × AreCells l.fn.store l.store l.names (λ j. (settled_at l.found (l.base + j)).ty) l.j l.cells.items
    × (length l.store.cells ≡ length l.fn.store.cells + l.j)
