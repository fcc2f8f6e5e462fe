-- A table and what stands behind it: numbers that it holds read the same.
use Rattle.std.proofs.Common.{◌≡◌, ℕ, suc, ◌⊎◌, inl, inr, Bool, true, false, List, [], ◌∷◌, ◌++◌, length, get_or, Contains, Some, bytes_eq, refl, sym, ◌∙◌, ap, subst, arith, length-append, append_assoc, append-nil, if◌then◌else◌}
use Rattle.std.proofs.lemmas.List.{get_or_append_left}
use Rattle.ab_term.specs.Types.{Ty, kind, prop}
use Rattle.ab_term.specs.Typing as typing
use Rattle.ab_term.proofs.Lists.{Contains-none, Contains-here, Contains-there, Contains-cases}
use Rattle.ab_term.specs.Constants.{Constant, names, type_in}
use Rattle.ab_types.specs.Entries.{Entry, a_kind, a_type, a_constant, Table, kinds, types, constants, signature, IsExtendedBy}
use Rattle.ab_types.specs.Ids.{HoldsKind, HoldsType, HoldsConstant, HoldsView, kind_of, type_of, constant_of, seen_type}
use Rattle.ab_types.specs.declared.ids.KindId.{KindId}
use Rattle.ab_types.specs.declared.ids.TypeId.{TypeId}
use Rattle.ab_types.specs.declared.ids.ConstId.{ConstId}
use Rattle.ab_types.specs.declared.ids.TypeView.{TypeView}
use Rattle.ab_types.specs.declared.ids.TypeView.TheVariants.{Base, Arrow}

pub kinds-append : (s t : Table) → kinds (s ++ t) ≡ kinds s ++ kinds t
kinds-append [] t = refl
kinds-append (a_kind k ∷ s) t = ap (λ l. k ∷ l) (kinds-append s t)
kinds-append (a_type A ∷ s) t = kinds-append s t
kinds-append (a_constant c ∷ s) t = kinds-append s t

pub types-append : (s t : Table) → types (s ++ t) ≡ types s ++ types t
types-append [] t = refl
types-append (a_kind k ∷ s) t = types-append s t
types-append (a_type A ∷ s) t = ap (λ l. A ∷ l) (types-append s t)
types-append (a_constant c ∷ s) t = types-append s t

pub constants-append : (s t : Table) → constants (s ++ t) ≡ constants s ++ constants t
constants-append [] t = refl
constants-append (a_kind k ∷ s) t = constants-append s t
constants-append (a_type A ∷ s) t = constants-append s t
constants-append (a_constant c ∷ s) t = ap (λ l. c ∷ l) (constants-append s t)

pub names-append : (cs ds : List Constant) → names (cs ++ ds) ≡ names cs ++ names ds
names-append [] ds = refl
names-append (c ∷ cs) ds = ap (λ l. c.name ∷ l) (names-append cs ds)

pub length-names : (cs : List Constant) → length (names cs) ≡ length cs
length-names [] = refl
length-names (c ∷ cs) = ap suc (length-names cs)

-- numbers

pub holds_kind : (s t : Table) (id : KindId) → HoldsKind s id → HoldsKind (s ++ t) id
holds_kind s t id h = omega (arith, ap length (kinds-append s t), length-append (kinds s) (kinds t))

pub holds_type : (s t : Table) (id : TypeId) → HoldsType s id → HoldsType (s ++ t) id
holds_type s t id h = omega (arith, ap length (types-append s t), length-append (types s) (types t))

pub holds_constant : (s t : Table) (id : ConstId) → HoldsConstant s id → HoldsConstant (s ++ t) id
holds_constant s t id h = omega (arith, ap length (constants-append s t), length-append (constants s) (constants t))

pub same_kind : (s t : Table) (id : KindId) → HoldsKind s id → kind_of (s ++ t) id ≡ kind_of s id
same_kind s t id h = ap (λ l. get_or l id.0 []) (kinds-append s t) ∙ get_or_append_left (kinds s) (kinds t) [] id.0 h

pub same_type : (s t : Table) (id : TypeId) → HoldsType s id → type_of (s ++ t) id ≡ type_of s id
same_type s t id h = ap (λ l. get_or l id.0 prop) (types-append s t) ∙ get_or_append_left (types s) (types t) prop id.0 h

pub same_constant : (s t : Table) (id : ConstId) → HoldsConstant s id → constant_of (s ++ t) id ≡ constant_of s id
same_constant s t id h =
    let d : Constant = record { name = []; type = prop } in
    ap (λ l. get_or l id.0 d) (constants-append s t) ∙ get_or_append_left (constants s) (constants t) d id.0 h

pub holds_view : (s t : Table) (v : TypeView) → HoldsView s v → HoldsView (s ++ t) v
holds_view s t (Base k) h = holds_kind s t k h
holds_view s t (Arrow a b) h = (holds_type s t a h.0, holds_type s t b h.1)

pub same_seen : (s t : Table) (v : TypeView) → HoldsView s v → seen_type (s ++ t) v ≡ seen_type s v
same_seen s t (Base k) h = ap kind (same_kind s t k h)
same_seen s t (Arrow a b) h =
    let e = same_type s t a h.0 in
    let f = same_type s t b h.1 in
    cc

-- constants by name

module _ (name : List ℕ) where
  type_in-append : (cs ds : List Constant) (A : Ty) → type_in cs name ≡ Some A → type_in (cs ++ ds) name ≡ Some A
  type_in-append [] ds A e = absurd (cc)
  type_in-append (c ∷ cs) ds A e = go (bytes_eq name c.name) refl (type_in-append cs ds A)
    where
      go : (b : Bool) → bytes_eq name c.name ≡ b → (type_in cs name ≡ Some A → type_in (cs ++ ds) name ≡ Some A) → type_in (c ∷ (cs ++ ds)) name ≡ Some A
      go true p rest = ap (λ b. if b then Some c.type else type_in (cs ++ ds) name) p ∙ sym (ap (λ b. if b then Some c.type else type_in cs name) p) ∙ e
      go false p rest =
          let later : type_in cs name ≡ Some A = sym (ap (λ b. if b then Some c.type else type_in cs name) p) ∙ e in
          ap (λ b. if b then Some c.type else type_in (cs ++ ds) name) p ∙ rest later

pub same_signature : (s t : Table) → typing.IsExtendedBy (signature s) (signature (s ++ t))
same_signature s t name A e = ap (λ cs. type_in cs name) (constants-append s t) ∙ type_in-append name (constants s) (constants t) A e

-- extension

pub extended_by_itself : (s : Table) → IsExtendedBy s s
extended_by_itself s = ([], sym (append-nil _))

pub extended_twice : (s t u : Table) → IsExtendedBy s t → IsExtendedBy t u → IsExtendedBy s u
extended_twice s t u (a, p) (b, q) = (a ++ b, q ∙ ap (λ l. l ++ b) p ∙ append_assoc s a b)

pub extended_by_one : (s : Table) (e : Entry) → IsExtendedBy s (s ++ e ∷ [])
extended_by_one s e = (e ∷ [], refl)

pub type_still_held : (s t : Table) → IsExtendedBy s t → (id : TypeId) → HoldsType s id → HoldsType t id
type_still_held s t (more, e) id h = subst (λ u. HoldsType u id) (sym e) (holds_type s more id h)

-- what is among the entries is in its list

pub in_types : (t : Table) (A : Ty) → Contains t (a_type A) → Contains (types t) A
in_types [] A c = absurd (Contains-none (a_type A) c)
in_types (a_kind k ∷ t) A c = go (in_types t A) (Contains-cases (a_kind k) t (a_type A) c)
  where
    go : (Contains t (a_type A) → Contains (types t) A) → (a_kind k ≡ a_type A) ⊎ Contains t (a_type A) → Contains (types t) A
    go rest (inl e) = absurd (cc)
    go rest (inr m) = rest m
in_types (a_type B ∷ t) A c = go (in_types t A) (Contains-cases (a_type B) t (a_type A) c)
  where
    go : (Contains t (a_type A) → Contains (types t) A) → (a_type B ≡ a_type A) ⊎ Contains t (a_type A) → Contains (B ∷ types t) A
    go rest (inl e) = let same : B ≡ A = cc in subst (Contains (B ∷ types t)) same (Contains-here B (types t))
    go rest (inr m) = Contains-there B (types t) A (rest m)
in_types (a_constant d ∷ t) A c = go (in_types t A) (Contains-cases (a_constant d) t (a_type A) c)
  where
    go : (Contains t (a_type A) → Contains (types t) A) → (a_constant d ≡ a_type A) ⊎ Contains t (a_type A) → Contains (types t) A
    go rest (inl e) = absurd (cc)
    go rest (inr m) = rest m

pub from_types : (t : Table) (A : Ty) → Contains (types t) A → Contains t (a_type A)
from_types [] A c = absurd (Contains-none A c)
from_types (a_kind k ∷ t) A c = Contains-there (a_kind k) t (a_type A) (from_types t A c)
from_types (a_type B ∷ t) A c = go (from_types t A) (Contains-cases B (types t) A c)
  where
    go : (Contains (types t) A → Contains t (a_type A)) → (B ≡ A) ⊎ Contains (types t) A → Contains (a_type B ∷ t) (a_type A)
    go rest (inl e) = subst (λ X. Contains (a_type B ∷ t) (a_type X)) e (Contains-here (a_type B) t)
    go rest (inr m) = Contains-there (a_type B) t (a_type A) (rest m)
from_types (a_constant d ∷ t) A c = Contains-there (a_constant d) t (a_type A) (from_types t A c)
