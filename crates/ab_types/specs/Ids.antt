-- What the numbers for kinds, types and constants stand for. Each sort is numbered by itself, from 0, in the
-- order of its entries. Of a number that the table doesn't hold these words say nothing: contracts ask for
-- numbers that are held.
use Rattle.std.specs.Prelude.{ℕ, ◌<◌, List, [], length, slice_index_or}
use Rattle.ab_term.specs.Types.{Ty, kind, arrow, prop}
use Rattle.ab_term.specs.Constants.{Constant}
use Rattle.ab_types.specs.Entries.{Table, kinds, types, constants}
use Rattle.ab_types.specs.declared.ids.KindId.{KindId}
use Rattle.ab_types.specs.declared.ids.TypeId.{TypeId}
use Rattle.ab_types.specs.declared.ids.ConstId.{ConstId}
use Rattle.ab_types.specs.declared.ids.TypeView.{TypeView}
use Rattle.ab_types.specs.declared.ids.TypeView.TheVariants.{Base, Arrow}

abbrev pub HoldsKind : Table → KindId → Type 0
HoldsKind table id = id.0 < length (kinds table)

abbrev pub HoldsType : Table → TypeId → Type 0
HoldsType table id = id.0 < length (types table)

abbrev pub HoldsConstant : Table → ConstId → Type 0
HoldsConstant table id = id.0 < length (constants table)

-- the name of a kind
abbrev pub kind_of : Table → KindId → List ℕ
kind_of table id = slice_index_or (kinds table) id.0 []

-- the plain type that a number stands for
abbrev pub type_of : Table → TypeId → Ty
type_of table id = slice_index_or (types table) id.0 prop

-- the name of a constant, and its plain type
abbrev pub constant_of : Table → ConstId → Constant
constant_of table id = slice_index_or (constants table) id.0 (record { name = []; type = prop })

-- a type, seen as a kind or as an arrow between types of the table
abbrev pub HoldsView : Table → TypeView → Type 0
HoldsView table (Base k) = HoldsKind table k
HoldsView table (Arrow a b) = HoldsType table a × HoldsType table b

abbrev pub seen_type : Table → TypeView → Ty
seen_type table (Base k) = kind (kind_of table k)
seen_type table (Arrow a b) = arrow (type_of table a) (type_of table b)
