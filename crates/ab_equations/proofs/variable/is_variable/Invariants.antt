use Rattle.std.proofs.Common.{◌≡◌, ℕ, ◌<◌, get_or}
use Rattle.ab_norm.specs.ab_store.specs.declared.node.CellId.{CellId}
use Rattle.ab_norm.specs.ab_store.specs.Trees.{cell_of}
use Rattle.ab_equations.proofs.variable.is_variable.Given as goal

abbrev pub invariant-loop-cell : goal.invariant-loop-cell
invariant-loop-cell l = (i : ℕ) (d : CellId) → i < l.cell-index → (cell_of l.world.store (get_or l.cell-items i d)).hint ≡ l.name → ⊥
