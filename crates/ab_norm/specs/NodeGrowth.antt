-- What a call that makes terms does to a store: it adds nodes, and nothing else.
use Rattle.std.specs.Prelude.{◌≡◌}
use Rattle.ab_store.specs.ab_types.specs.Entries.{Table}
use Rattle.ab_store.specs.Reading.{Contents}
use Rattle.ab_store.specs.Growth.{IsExtendedBy}
use Rattle.ab_store.specs.Naming.{IsTypedBy}

-- ids and cells stay and read as before, no cell is added, and what is added is of each table that the store is of
pub record AddsTerms (old new : Contents) : Type 0 where
  pub before : IsExtendedBy old new
  pub cells : new.cells ≡ old.cells
  pub typed : (types : Table) → IsTypedBy types old → IsTypedBy types new

-- the same, for one table that the store is of
pub record AddsTypedTerms (types : Table) (old new : Contents) : Type 0 where
  pub before : IsExtendedBy old new
  pub cells : new.cells ≡ old.cells
  pub typed : IsTypedBy types new
