use Rattle.std.proofs.Common.{◌≡◌, ◌+◌, ◌≤◌, length, take}
use Rattle.ab_norm.specs.ab_store.specs.declared.mark.Mark.{Mark}
use Rattle.ab_norm.specs.ab_store.specs.Marks.{HasMark, KeepsMark}
use Rattle.ab_norm.specs.ab_store.specs.Naming.{IsTypedBy}
use Rattle.ab_instances.specs.CellBindings.{bound_to}
use Rattle.ab_instances.proofs.cell_bindings.bind_all.Given as goal

abbrev pub invariant-loop-i : goal.invariant-loop-i
invariant-loop-i g l = record {
  bindings : l.store.bindings ≡ bound_to (take l.i l.cells) (take l.i l.terms);
  nodes : l.store.nodes ≡ l.initial.store.nodes;
  cells : l.store.cells ≡ l.initial.store.cells;
  typed : IsTypedBy l.types l.store;
  marks : (m : Mark) → HasMark l.initial.store m → KeepsMark l.initial.store l.store m;
  room : length l.cells ≤ l.store.room + l.i;
  steps : l.steps ≡ l.initial.steps;
}
