-- Types that are dropped from the end of a table.
use Rattle.std.specs.Prelude.{◌≡◌, ℕ, suc, ◌≤◌, [], ◌∷◌, ◌++◌, length, Option, Some, None}
use Rattle.ab_term.specs.Types.{Ty}
use Rattle.ab_types.specs.Entries.{Table, a_type, kinds, types, constants, IsExtendedBy}
use Rattle.ab_types.specs.declared.ids.TypeId.{TypeId}

-- how many types a table has up to that one; none, where none is told
abbrev pub types_up_to : Option TypeId → ℕ
types_up_to None = 0
types_up_to (Some a) = suc a.0

-- THE SECOND TABLE IS THE FIRST WITHOUT TYPES AT ITS END: no kind and no constant went
pub record LosesTypes (old new : Table) : Type 0 where
  pub front : IsExtendedBy new old
  pub same_kinds : kinds new ≡ kinds old
  pub same_constants : constants new ≡ constants old

-- the table has that many entries, and the named type, if one is named
pub record HasEnough (len : ℕ) (named : Option TypeId) (table : Table) : Type 0 where
  pub long : len ≤ length table
  pub held : types_up_to named ≤ length (types table)

-- the table's last entry is a type without which it has enough
pub record EndsSpare (len : ℕ) (named : Option TypeId) (table : Table) : Type 0 where
  pub front : Table
  pub type : Ty
  pub ends : table ≡ front ++ a_type type ∷ []
  pub enough : HasEnough len named front
