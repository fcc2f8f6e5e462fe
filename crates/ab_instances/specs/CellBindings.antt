-- Cells that are bound to terms, one against one.
use Rattle.std.specs.Prelude.{◌≢◌, List, [], ◌∷◌, AllPairs, Contains}
use Rattle.ab_norm.specs.ab_types.specs.Entries.{Table}
use Rattle.ab_norm.specs.ab_types.specs.Ids.{type_of}
use Rattle.ab_norm.specs.ab_store.specs.declared.node.TermId.{TermId}
use Rattle.ab_norm.specs.ab_store.specs.declared.node.CellId.{CellId}
use Rattle.ab_norm.specs.ab_store.specs.declared.node.Binding.{Binding}
use Rattle.ab_norm.specs.ab_store.specs.Trees.{Contents, HoldsCell, cell_of}
use Rattle.ab_norm.specs.ab_store.specs.Bindings.{cells_of}
use Rattle.ab_norm.specs.ab_store.specs.Naming.{IsTerm}
use Rattle.ab_unifiers.specs.Clauses.{Each}

abbrev pub bound_to : List CellId → List TermId → List Binding
bound_to [] ts = []
bound_to (c ∷ cs) [] = []
bound_to (c ∷ cs) (t ∷ ts) = record { cell = c; term = t } ∷ bound_to cs ts

-- the term is one for the cell, and none of these cells stands in it
pub record IsFor (types : Table) (store : Contents) (cells : List CellId) (c : CellId) (t : TermId) : Type 0 where
  pub held : HoldsCell store c
  pub typed : IsTerm types store [] t (type_of types (cell_of store c).ty)
  pub apart : (d : CellId) → Contains (cells_of store t) d → ¬ Contains cells d

-- different cells, and a term for each
pub record CanBeBound (types : Table) (store : Contents) (cells : List CellId) (terms : List TermId) : Type 0 where
  pub different : AllPairs (λ c d. c ≢ d) cells
  pub each : Each (IsFor types store cells) cells terms
