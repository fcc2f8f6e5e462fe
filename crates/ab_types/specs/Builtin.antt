-- What a new table keeps, list by list.
use Rattle.std.specs.Prelude.{ℕ, List, [], ◌∷◌, codes}
use Rattle.ab_types.specs.Layout.{Kept}
use Rattle.ab_types.specs.declared.ids.KindId.{KindId}
use Rattle.ab_types.specs.declared.ids.TypeId.{TypeId}
use Rattle.ab_types.specs.declared.ids.TypeView.{TypeView}
use Rattle.ab_types.specs.declared.ids.TypeView.TheVariants.{Base, Arrow}
use Rattle.ab_types.specs.declared.columns.Sort.{Sort}
use Rattle.ab_types.specs.declared.columns.Sort.TheVariants.{Kind, Ty, Constant}

abbrev kind_id : ℕ → KindId
kind_id n = record { 0 = n }

abbrev type_id : ℕ → TypeId
type_id n = record { 0 = n }

abbrev pub first_kinds : List (List ℕ)
first_kinds = codes "prop" ∷ codes "o" ∷ codes "olist" ∷ []

abbrev pub first_views : List TypeView
first_views =
    Base (kind_id 0) ∷ Base (kind_id 1) ∷ Base (kind_id 2) ∷
    Arrow (type_id 2) (type_id 2) ∷ Arrow (type_id 1) (type_id 3) ∷
    Arrow (type_id 2) (type_id 0) ∷ Arrow (type_id 1) (type_id 5) ∷ []

abbrev pub first_kept : List Kept
first_kept = (codes "nil", type_id 2) ∷ (codes "::", type_id 4) ∷ (codes "member", type_id 6) ∷ []

abbrev pub first_sorts : List Sort
first_sorts =
    Kind ∷ Kind ∷ Kind ∷ Ty ∷ Ty ∷ Ty ∷ Ty ∷ Ty ∷ Ty ∷ Ty ∷ Constant ∷ Constant ∷ Constant ∷ []
