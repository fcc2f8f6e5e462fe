-- What cells are read as.
use Rattle.std.specs.Prelude.{ℕ}
use Rattle.ab_term.specs.Terms.{Variable}
use Rattle.ab_store.specs.ab_types.specs.Entries.{Table}
use Rattle.ab_store.specs.ab_types.specs.Ids.{type_of}
use Rattle.ab_store.specs.declared.node.CellId.{CellId}
use Rattle.ab_store.specs.Trees.{Contents, cell_of}

-- the variable that a cell is, in readings
abbrev pub variable_of : Table → Contents → CellId → Variable ℕ
variable_of types store c = record { name = c.0; type = type_of types (cell_of store c).ty }
