-- What a call that makes variables and terms does to a store: cells and nodes are added, and nothing else.
use Rattle.ab_norm.specs.ab_types.specs.Entries.{Table}
use Rattle.ab_norm.specs.ab_store.specs.Trees.{Contents}
use Rattle.ab_norm.specs.ab_store.specs.Growth.{IsExtendedBy}
use Rattle.ab_norm.specs.ab_store.specs.Naming.{IsTypedBy}

-- ids and cells stay and read as before, no cell is bound, and what is added is of the table
pub record AddsVariables (types : Table) (old new : Contents) : Type 0 where
  pub before : IsExtendedBy old new
  pub typed : IsTypedBy types new
