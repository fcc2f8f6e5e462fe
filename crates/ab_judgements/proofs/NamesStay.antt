-- The names of a part, where the table grew.
use Rattle.std.proofs.Common.{◌≡◌, ℕ, List, [], ◌∷◌, map, refl, sym, ap, ◌∙◌}
use Rattle.std.specs.List.{All}
use Rattle.std.proofs.lemmas.List.Elements.{All-head, All-tail, All-weaker}
use Rattle.ab_term.specs.Types.{Ty}
use Rattle.ab_norm.specs.ab_types.specs.Entries.{Table, IsExtendedBy as IsPartOf}
use Rattle.ab_norm.specs.ab_types.specs.Ids.{type_of, HoldsType}
use Rattle.ab_norm.specs.ab_types.specs.declared.ids.TypeId.{TypeId}
use Rattle.ab_norm.specs.ab_types.proofs.Entries.{same_type, type_still_held}
use Rattle.ab_unifiers.specs.Replacements.{Cell}
use Rattle.ab_judgement_forms.specs.PartReadings.{name_read, HoldsName}
use Rattle.ab_judgement_forms.specs.declared.part_names.PartName.{PartName}

type_stays : (s t : Table) → IsPartOf s t → (id : TypeId) → HoldsType s id → type_of t id ≡ type_of s id
type_stays s t e id h = ap (λ t. type_of t id) e.1 ∙ same_type s e.0 id h

abbrev one : PartName → Ty → Cell (List ℕ)
one a A = record { hint = a.hint; type = A }

pub names_stay : (s t : Table) → IsPartOf s t → (ns : List PartName) → All (HoldsName s) ns → map (name_read t) ns ≡ map (name_read s) ns
names_stay s t e [] h = refl
names_stay s t e (a ∷ ns) h =
    ap (λ (A : Ty). one a A ∷ map (name_read t) ns) (type_stays s t e a.ty (All-head (HoldsName s) a ns h))
    ∙ ap (λ l. name_read s a ∷ l) (names_stay s t e ns (All-tail (HoldsName s) a ns h))

pub names_held : (s t : Table) → IsPartOf s t → (ns : List PartName) → All (HoldsName s) ns → All (HoldsName t) ns
names_held s t e ns h = All-weaker (HoldsName s) (HoldsName t) (λ a l. type_still_held s t e a.ty l) ns h
