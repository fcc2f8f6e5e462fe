-- How a table is kept: the kinds, the types and the constants each in a list of their own, and the order in which
-- they came. Contracts don't speak of this.
use Rattle.std.specs.Prelude.{◌≡◌, ℕ, List, [], ◌∷◌, ◌++◌}
use Rattle.ab_types.specs.Entries.{Table, Entry, a_kind, a_type, a_constant}
use Rattle.ab_types.specs.Ids.{HoldsType, HoldsView, type_of, seen_type}
use Rattle.ab_types.specs.Sound.{IsTable}
use Rattle.ab_types.specs.declared.ids.TypeId.{TypeId}
use Rattle.ab_types.specs.declared.ids.TypeView.{TypeView}
use Rattle.ab_types.specs.declared.columns.Sort.{Sort}
use Rattle.ab_types.specs.declared.columns.Sort.TheVariants.{Kind, Ty, Constant}

abbrev pub Kept : Type 0
Kept = List ℕ × TypeId

-- an entry as it is kept
pub data Row : Type 0 where
  kind_row : List ℕ → Row
  type_row : TypeView → Row
  constant_row : Kept → Row

-- the rows, one for each word of the order
abbrev pub rows : List Sort → List (List ℕ) → List TypeView → List Kept → List Row
rows [] ks vs cs = []
rows (Kind ∷ ss) [] vs cs = []
rows (Kind ∷ ss) (k ∷ ks) vs cs = kind_row k ∷ rows ss ks vs cs
rows (Ty ∷ ss) ks [] cs = []
rows (Ty ∷ ss) ks (v ∷ vs) cs = type_row v ∷ rows ss ks vs cs
rows (Constant ∷ ss) ks vs [] = []
rows (Constant ∷ ss) ks vs (c ∷ cs) = constant_row c ∷ rows ss ks vs cs

-- the order has as many words of each sort as there are entries of it
abbrev pub Fits : List Sort → List (List ℕ) → List TypeView → List Kept → Type 0
Fits [] ks vs cs = (ks ≡ []) × (vs ≡ []) × (cs ≡ [])
Fits (Kind ∷ ss) [] vs cs = ⊥
Fits (Kind ∷ ss) (k ∷ ks) vs cs = Fits ss ks vs cs
Fits (Ty ∷ ss) ks [] cs = ⊥
Fits (Ty ∷ ss) ks (v ∷ vs) cs = Fits ss ks vs cs
Fits (Constant ∷ ss) ks vs [] = ⊥
Fits (Constant ∷ ss) ks vs (c ∷ cs) = Fits ss ks vs cs

-- what a row says behind a table
abbrev pub entry_of : Table → Row → Entry
entry_of table (kind_row k) = a_kind k
entry_of table (type_row v) = a_type (seen_type table v)
entry_of table (constant_row c) = a_constant (record { name = c.0; type = type_of table c.1 })

-- the numbers in the row are held
abbrev pub StandsOn : Table → Row → Type 0
StandsOn table (kind_row k) = Unit {0}
StandsOn table (type_row v) = HoldsView table v
StandsOn table (constant_row c) = HoldsType table c.1

-- the table with these rows behind it
abbrev pub with_rows : Table → List Row → Table
with_rows table [] = table
with_rows table (r ∷ rs) = with_rows (table ++ entry_of table r ∷ []) rs

-- each row stands on those before it
abbrev pub StandOn : Table → List Row → Type 0
StandOn table [] = Unit {0}
StandOn table (r ∷ rs) = StandsOn table r × StandOn (table ++ entry_of table r ∷ []) rs

abbrev pub table_of : List Sort → List (List ℕ) → List TypeView → List Kept → Table
table_of ss ks vs cs = with_rows [] (rows ss ks vs cs)

pub record IsKept (ss : List Sort) (ks : List (List ℕ)) (vs : List TypeView) (cs : List Kept) : Type 0 where
  pub fits : Fits ss ks vs cs
  pub stand : StandOn [] (rows ss ks vs cs)
  pub table : IsTable (table_of ss ks vs cs)

-- the second lists are the first with one row more behind the others
pub record AddsRow (ss : List Sort) (ks : List (List ℕ)) (vs : List TypeView) (cs : List Kept) (ss2 : List Sort) (ks2 : List (List ℕ)) (vs2 : List TypeView) (cs2 : List Kept) : Type 0 where
  pub row : Row
  pub fits : Fits ss ks vs cs
  pub rows_are : rows ss2 ks2 vs2 cs2 ≡ rows ss ks vs cs ++ row ∷ []
