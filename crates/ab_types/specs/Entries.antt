-- A table is the list of its entries: declared kinds, types that were asked for, declared constants.
use Rattle.std.specs.Prelude.{◌≡◌, ◌⊎◌, ℕ, List, [], ◌∷◌, ◌++◌, codes, Contains, Some, None, if◌then◌else◌, bytes_eq}
use Rattle.ab_term.specs.Types.{Ty, arrow, prop, o, olist}
use Rattle.ab_term.specs.Typing.{Signature}
pub use Rattle.ab_term.specs.Constants.{Constant, names, type_in, constant}

pub data Entry : Type 0 where
  a_kind : List ℕ → Entry
  a_type : Ty → Entry
  a_constant : Constant → Entry

abbrev pub Table : Type 0
Table = List Entry

-- the names of the kinds, in order
abbrev pub kinds : Table → List (List ℕ)
kinds [] = []
kinds (a_kind k ∷ es) = k ∷ kinds es
kinds (a_type A ∷ es) = kinds es
kinds (a_constant c ∷ es) = kinds es

abbrev pub types : Table → List Ty
types [] = []
types (a_kind k ∷ es) = types es
types (a_type A ∷ es) = A ∷ types es
types (a_constant c ∷ es) = types es

abbrev pub constants : Table → List Constant
constants [] = []
constants (a_kind k ∷ es) = constants es
constants (a_type A ∷ es) = constants es
constants (a_constant c ∷ es) = c ∷ constants es

-- what types the table's constants have
abbrev pub signature : Table → Signature
signature table = type_in (constants table)

-- what a new table holds: the kinds `prop`, `o` and `olist`, and the constants `nil`, `::` and `member`, with
-- all types that these have and are made of
abbrev pub first_entries : Table
first_entries =
    a_kind (codes "prop") ∷ a_kind (codes "o") ∷ a_kind (codes "olist") ∷
    a_type prop ∷ a_type o ∷ a_type olist ∷
    a_type (arrow olist olist) ∷ a_type (arrow o (arrow olist olist)) ∷
    a_type (arrow olist prop) ∷ a_type (arrow o (arrow olist prop)) ∷
    a_constant (constant (codes "nil") olist) ∷
    a_constant (constant (codes "::") (arrow o (arrow olist olist))) ∷
    a_constant (constant (codes "member") (arrow o (arrow olist prop))) ∷ []

-- the second table has the entries of the first, in their places, and maybe more behind them
abbrev pub IsExtendedBy : Table → Table → Type 0
IsExtendedBy old new = (more : Table) × (new ≡ old ++ more)

-- a table with this entry: the table itself where it has it, and else the table with the entry behind it
abbrev pub FindsOrAdds : Table → Entry → Table → Type 0
FindsOrAdds table e new = (Contains table e × (new ≡ table)) ⊎ ((¬ Contains table e) × (new ≡ table ++ e ∷ []))
