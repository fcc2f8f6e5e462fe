use Rattle.std.proofs.Common.{◌≡◌, map, take}
use Rattle.std.specs.Prelude.{filter, not}
use Rattle.std.specs.List.{All}
use Rattle.ab_norm.specs.ab_types.specs.Entries.{Table}
use Rattle.ab_norm.specs.ab_store.specs.Trees.{HoldsCell, tree_of}
use Rattle.ab_typing.specs.DefinitionReadings.{variable_of}
use Rattle.ab_declare.specs.KeptClauses.{stands_in_body_alone}
use Rattle.ab_declare.proofs.kept_clauses.split_cells.Given as goal

abbrev pub invariant-loop-cell : goal.invariant-loop-cell
invariant-loop-cell l = record {
  alone : (types : Table) → map (variable_of types l.store) l.alone.items ≡ filter (stands_in_body_alone (tree_of types l.store l.head) (tree_of types l.store l.body)) (map (variable_of types l.store) (take l.cell-index l.cells));
  others : (types : Table) → map (variable_of types l.store) l.others.items ≡ filter (λ v. not (stands_in_body_alone (tree_of types l.store l.head) (tree_of types l.store l.body) v)) (map (variable_of types l.store) (take l.cell-index l.cells));
  alone_held : All (HoldsCell l.store) l.alone.items;
  others_held : All (HoldsCell l.store) l.others.items;
}
