use Rattle.std.proofs.Common.{◌≡◌, take}
use Rattle.ab_equations.specs.Meanwhile.{unbound_of}
use Rattle.ab_alternatives.proofs.conclusions.unbound_cells.Given as goal

abbrev pub invariant-loop-cell : goal.invariant-loop-cell
invariant-loop-cell l = l.kept.items ≡ unbound_of l.store (take l.cell-index l.cells)
