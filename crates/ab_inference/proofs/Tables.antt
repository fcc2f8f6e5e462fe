-- What is known of variables, read in a longer table.
use Rattle.std.proofs.Common.{◌≡◌, ℕ, ◌<◌, List, [], ◌∷◌, ◌++◌, length, get_or, refl, sym, ◌∙◌, ap, subst, inl, inr}
use Rattle.ab_term.specs.Types.{Ty}
use Rattle.ab_store.specs.ab_types.specs.Entries.{Table, kinds, constants, a_kind, a_type, a_constant, FindsOrAdds, IsExtendedBy}
use Rattle.ab_store.specs.ab_types.specs.Ids.{HoldsType, type_of}
use Rattle.ab_store.specs.ab_types.specs.declared.ids.TypeId.{TypeId}
use Rattle.ab_store.specs.ab_types.proofs.Entries.{holds_type, same_type}
use Rattle.ab_inference.specs.declared.shape.Shape.{Shape}
use Rattle.ab_inference.specs.declared.shape.Shape.TheVariants.{Open, Link, Known, Arrow}
use Rattle.ab_inference.specs.Solutions.{Assignment, Fits, Solves, AreHeld, HeldShape, shape_at}

pub still_held : (old new : Table) → IsExtendedBy old new → (id : TypeId) → HoldsType old id → HoldsType new id
still_held old new more id h = subst (λ t. HoldsType t id) (sym more.1) (holds_type old more.0 id h)

pub same_reading : (old new : Table) → IsExtendedBy old new → (id : TypeId) → HoldsType old id → type_of new id ≡ type_of old id
same_reading old new more id h = ap (λ t. type_of t id) more.1 ∙ same_type old more.0 id h

module _ (old new : Table) (more : IsExtendedBy old new) where
  pub shape_held : (c : Shape) → HeldShape old c → HeldShape new c
  shape_held Open h = tt
  shape_held (Link j) h = tt
  shape_held (Known id) h = still_held old new more id h
  shape_held (Arrow a b) h = tt

  pub fits_on : (v : Assignment) (A : Ty) (c : Shape) → HeldShape old c → Fits old v A c → Fits new v A c
  fits_on v A Open h f = tt
  fits_on v A (Link j) h f = f
  fits_on v A (Known id) h f = f ∙ sym (same_reading old new more id h)
  fits_on v A (Arrow a b) h f = f

  pub fits_back : (v : Assignment) (A : Ty) (c : Shape) → HeldShape old c → Fits new v A c → Fits old v A c
  fits_back v A Open h f = tt
  fits_back v A (Link j) h f = f
  fits_back v A (Known id) h f = f ∙ same_reading old new more id h
  fits_back v A (Arrow a b) h f = f

  module _ (shapes : List Shape) (held : AreHeld old shapes) where
    pub still_all_held : AreHeld new shapes
    still_all_held = record { held = λ i. shape_held (shape_at shapes i) (held.held i) }

    pub solves_on : (v : Assignment) → Solves old v shapes → Solves new v shapes
    solves_on v h = record { at = λ i l. fits_on v (v i) (shape_at shapes i) (held.held i) (h.at i l) }

    pub solves_back : (v : Assignment) → Solves new v shapes → Solves old v shapes
    solves_back v h = record { at = λ i l. fits_back v (v i) (shape_at shapes i) (held.held i) (h.at i l) }

-- a type that is found or added changes neither kinds nor constants
kinds_stay : (t : Table) (A : Ty) → kinds (t ++ a_type A ∷ []) ≡ kinds t
kinds_stay [] A = refl
kinds_stay (a_kind k ∷ t) A = ap (λ ks. k ∷ ks) (kinds_stay t A)
kinds_stay (a_type B ∷ t) A = kinds_stay t A
kinds_stay (a_constant c ∷ t) A = kinds_stay t A

pub same_kinds : (t new : Table) (A : Ty) → FindsOrAdds t (a_type A) new → kinds new ≡ kinds t
same_kinds t new A (inl h) = ap kinds h.1
same_kinds t new A (inr h) = ap kinds h.1 ∙ kinds_stay t A

constants_stay : (t : Table) (A : Ty) → constants (t ++ a_type A ∷ []) ≡ constants t
constants_stay [] A = refl
constants_stay (a_kind k ∷ t) A = constants_stay t A
constants_stay (a_type B ∷ t) A = constants_stay t A
constants_stay (a_constant c ∷ t) A = ap (λ cs. c ∷ cs) (constants_stay t A)

pub same_constants : (t new : Table) (A : Ty) → FindsOrAdds t (a_type A) new → constants new ≡ constants t
same_constants t new A (inl h) = ap constants h.1
same_constants t new A (inr h) = ap constants h.1 ∙ constants_stay t A
