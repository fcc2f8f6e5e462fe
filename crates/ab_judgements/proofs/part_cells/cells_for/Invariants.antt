use Rattle.std.proofs.Common.{◌≡◌, ◌++◌, map, take, length}
use Rattle.std.specs.List.{All}
use Rattle.ab_norm.specs.ab_store.specs.Trees.{HoldsCell}
use Rattle.ab_norm.specs.ab_store.specs.Growth.{IsExtendedBy}
use Rattle.ab_norm.specs.ab_store.specs.Naming.{IsTypedBy}
use Rattle.ab_unify.specs.Problem.{cells_read}
use Rattle.ab_theory.specs.Equations.{variables_from}
use Rattle.ab_logic.specs.Worlds.{variable_at}
use Rattle.ab_judgement_forms.specs.PartReadings.{name_read}
use Rattle.ab_judgements.proofs.part_cells.cells_for.Given as goal

abbrev pub invariant-loop-name : goal.invariant-loop-name
invariant-loop-name l = record {
  before : IsExtendedBy l.initial.store l.store;
  typed : IsTypedBy l.types l.store;
  nodes : l.store.nodes ≡ l.initial.store.nodes;
  held : All (HoldsCell l.store) l.made.items;
  cells : cells_read l.types l.store ≡ cells_read l.types l.initial.store ++ map (name_read l.types) (take l.name-index l.names);
  made : map (variable_at l.types l.store) l.made.items ≡ variables_from (length l.initial.store.cells) (map (name_read l.types) (take l.name-index l.names));
}
