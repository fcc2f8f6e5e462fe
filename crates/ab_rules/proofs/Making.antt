-- Terms and types that rules make, one by one.
use Rattle.std.specs.List.{All}
use Rattle.std.proofs.Common.{◌≡◌, ℕ, ◌+◌, ◌<◌, ◌≤◌, List, [], ◌∷◌, ◌++◌, map, take, drop, length, get_or, sym, ◌∙◌, ap, subst, arith, append_assoc}
use Rattle.std.proofs.lemmas.List.{map_more, map-append, at_drop_more, append-nil}
use Rattle.std.proofs.lemmas.List.Elements.{All-push, All-weaker}
use Rattle.ab_term.specs.Types.{Ty, arrow, arrows}
use Rattle.ab_norm.specs.ab_types.specs.Entries.{Table, IsExtendedBy as IsPartOf}
use Rattle.ab_norm.specs.ab_types.specs.Ids.{HoldsType, type_of}
use Rattle.ab_norm.specs.ab_types.specs.declared.ids.TypeId.{TypeId}
use Rattle.ab_norm.specs.ab_types.proofs.Entries.{same_type, holds_type}
use Rattle.ab_norm.specs.ab_store.specs.declared.node.TermId.{TermId}
use Rattle.ab_norm.specs.declared.nominal.Nominal.{Nominal}
use Rattle.ab_norm.specs.Nominals.{nominal_of, HoldsNominal}
use Rattle.ab_logic.specs.Worlds.{Holds, read, declarations_of}
use Rattle.ab_logic.specs.WorldGrowth.{Grows}
use Rattle.ab_logic.specs.declared.world.World.{World}
use Rattle.ab_theory.specs.Rules.{name_term}
use Rattle.ab_rules.specs.Terms.{Adds}
use Rattle.ab_logic.proofs.Growing.{map_same, grows_on}
use Rattle.ab_rules.proofs.Adding.{adds_on}

pub record Named (u w : World) (names : List Nominal) (i : ℕ) (ts : List TermId) : Type 0 where
  pub adds : Adds u w
  pub held : All (Holds w) ts
  pub reads : map (read w) ts ≡ map name_term (map (nominal_of u.types) (take i names))

pub named_more : (u w v : World) (names : List Nominal) (i : ℕ) (d : Nominal) (ts new : List TermId) (t : TermId)
    → Named u w names i ts → i < length names → Adds w v → Holds v t → read v t ≡ name_term (nominal_of w.types (get_or names i d)) → new ≡ ts ++ t ∷ []
    → Named u v names (i + 1) new
named_more u w v names i d ts new t so_far l adds held reads is = record {
  adds = adds_on u w v so_far.adds adds;
  held =
      subst (All (Holds v)) (sym is)
      (All-push (Holds v) ts t (All-weaker (Holds w) (Holds v) adds.grows.ids ts so_far.held) held);
  reads =
      ap (map (read v)) is
      ∙ map-append (read v) ts (t ∷ [])
      ∙ ap (λ xs. xs ++ read v t ∷ []) (map_same (read v) (read w) (Holds w) adds.grows.readings ts so_far.held ∙ so_far.reads)
      ∙ ap (λ x. map name_term (map (nominal_of u.types) (take i names)) ++ x ∷ []) (reads ∙ ap (λ types. name_term (nominal_of types (get_or names i d))) so_far.adds.types)
      ∙ sym (map-append name_term (map (nominal_of u.types) (take i names)) (nominal_of u.types (get_or names i d) ∷ []))
      ∙ ap (map name_term) (sym (map_more (nominal_of u.types) names i d l));
}

pub part_not : (t : Table) → IsPartOf t t
part_not t = ([], sym (append-nil t))

pub part_on : (s t u : Table) → IsPartOf s t → IsPartOf t u → IsPartOf s u
part_on s t u a b = (a.0 ++ b.0, b.1 ∙ ap (λ x. x ++ b.0) a.1 ∙ append_assoc s a.0 b.0)

pub type_stays : (s t : Table) (a : TypeId) → IsPartOf s t → HoldsType s a → type_of t a ≡ type_of s a
type_stays s t a part held = ap (λ x. type_of x a) part.1 ∙ same_type s part.0 a held

pub type_is_there : (s t : Table) (a : TypeId) → IsPartOf s t → HoldsType s a → HoldsType t a
type_is_there s t a part held = subst (λ x. HoldsType x a) (sym part.1) (holds_type s part.0 a held)

abbrev types_of : Table → List Nominal → List Ty
types_of types names = map (λ n. n.type) (map (nominal_of types) names)

pub record Over (u w : World) (names : List Nominal) (ty : TypeId) (left : ℕ) (over : TypeId) : Type 0 where
  pub within : left ≤ length names
  pub grows : Grows u w
  pub store : w.store ≡ u.store
  pub declared : declarations_of w ≡ declarations_of u
  pub part : IsPartOf u.types w.types
  pub held : HoldsType w.types over
  pub reads : type_of w.types over ≡ arrows (map (λ n. n.type) (map (nominal_of u.types) (drop left names))) (type_of u.types ty)

pub over_more : (u w v : World) (names : List Nominal) (ty : TypeId) (left k : ℕ) (d : Nominal) (over new : TypeId)
    → Over u w names ty left over → k + 1 ≡ left → All (HoldsNominal u.types) names
    → Grows w v → v.store ≡ w.store → declarations_of v ≡ declarations_of w → IsPartOf w.types v.types → HoldsType v.types new
    → type_of v.types new ≡ arrow (type_of w.types (get_or names k d).ty) (type_of w.types over) → Over u v names ty k new
over_more u w v names ty left k d over new so_far e all grows store declared part held reads =
    let within = so_far.within in
    let inside : k < length names = omega arith in
    record {
      within = omega arith;
      grows = grows_on u w v so_far.grows grows;
      store = store ∙ so_far.store;
      declared = declared ∙ so_far.declared;
      part = part_on u.types w.types v.types so_far.part part;
      held = held;
      reads =
          reads
          ∙ ap (λ A. arrow A (type_of w.types over)) (type_stays u.types w.types (get_or names k d).ty so_far.part (all k d inside))
          ∙ ap (arrow (type_of u.types (get_or names k d).ty)) (so_far.reads ∙ ap (λ j. arrows (types_of u.types (drop j names)) (type_of u.types ty)) (sym e))
          ∙ sym (at_drop_more (λ xs. arrows (types_of u.types xs) (type_of u.types ty)) names k d inside);
    }

-- constants of a table that has grown
pub names_stay : (s t : Table) (names : List Nominal) → IsPartOf s t → All (HoldsNominal s) names → map (nominal_of t) names ≡ map (nominal_of s) names
names_stay s t names part all =
    map_same (nominal_of t) (nominal_of s) (HoldsNominal s) (λ n held. ap (λ A. record { number = n.number; type = A }) (type_stays s t n.ty part held)) names all

pub names_are_there : (s t : Table) (names : List Nominal) → IsPartOf s t → All (HoldsNominal s) names → All (HoldsNominal t) names
names_are_there s t names part all = All-weaker (HoldsNominal s) (HoldsNominal t) (λ n held. type_is_there s t n.ty part held) names all
