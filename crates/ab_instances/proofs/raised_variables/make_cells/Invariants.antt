use Rattle.std.proofs.Common.{◌≡◌, ◌++◌, codes, length, take}
use Rattle.ab_norm.specs.ab_store.specs.Growth.{IsExtendedBy}
use Rattle.ab_unifiers.specs.Alternatives.{cells_over}
use Rattle.ab_unify.specs.Problem.{cells_read, cells_at}
use Rattle.ab_unify.specs.StoreChanges.{Grows}
use Rattle.ab_instances.specs.ListReadings.{names_read}
use Rattle.ab_instances.specs.RaisedCells.{ids_from}
use Rattle.ab_instances.proofs.raised_variables.make_cells.Given as goal

abbrev pub invariant-loop-cell : goal.invariant-loop-cell
invariant-loop-cell l = record {
  grows : Grows l.initial.types l.initial.store l.types l.store;
  before : IsExtendedBy l.initial.store l.store;
  cells : cells_read l.types l.store ≡ cells_read l.initial.types l.initial.store ++ cells_over (codes "x") (names_read l.initial.types l.names) (cells_at l.initial.types l.initial.store (take l.cell-index l.cells));
  made : l.made.items ≡ ids_from (length l.initial.store.cells) (take l.cell-index l.cells);
}
