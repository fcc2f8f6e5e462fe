-- What is true of every table.
use Rattle.std.specs.Prelude.{◌≡◌, ℕ, ◌<◌, List, length, slice_get}
use Rattle.ab_term.specs.Constants.{names}
use Rattle.ab_types.specs.Entries.{Table, kinds, types, constants, first_entries, IsExtendedBy}

-- what is equal stands at one place
abbrev pub AreDifferent : {X : Type 0} → List X → Type 0
AreDifferent xs = (i j : ℕ) → i < length xs → j < length xs → slice_get xs i ≡ slice_get xs j → i ≡ j

-- it begins with what a new table holds, no two kinds and no two constants have one name, and no type is there twice
pub record IsTable (table : Table) : Type 0 where
  pub begins : IsExtendedBy first_entries table
  pub kinds_differ : AreDifferent (kinds table)
  pub types_differ : AreDifferent (types table)
  pub constants_differ : AreDifferent (names (constants table))
