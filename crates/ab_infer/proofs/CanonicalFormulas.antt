-- A canonical term of type `prop` whose heads are ordinary is a formula.
use Rattle.std.proofs.Common.{◌≡◌, ℕ, zero, suc, List, [], ◌∷◌, Option, Some, None, unwrap_or, refl, sym, ap, subst}
use Rattle.ab_term.specs.Types.{Ty, kind, arrow, arrows, prop}
use Rattle.ab_term.specs.Logical.{Logical, logical_type, truth, falsity, conjunction, disjunction, implication, equality, universal, existential, nabla, judgement, focused_judgement, star, at_sign, plus, hash, spec_universal, spec_implication, spec_conjunction}
use Rattle.ab_term.specs.Terms.{Head, constant, logical, nominal, variable, index, Term, lam, spine, Terms, no_terms, term}
use Rattle.ab_term.specs.Typing.{Signature, type_at, head_type, HasType, TakeType, typed_lam, typed_spine, take_none, take_term}
use Rattle.ab_formulas.specs.Formulas.{StandsIn, AllStandIn, a_formula, a_scope, any, places_of_constant}
use Rattle.ab_meaning.specs.Types.{PropFree}
use Rattle.ab_infer.specs.Heads.{AreHeads, AreAllHeads, IsOrdinary, IsOrdinaryConstant}

abbrev Read : Type 0
Read = Term ℕ (List ℕ)

-- each argument is a formula
abbrev IsConnective : Ty → Type 0
IsConnective (kind k) = Unit {0}
IsConnective (arrow A B) = (A ≡ prop) × IsConnective B

abbrev AllFree : List Ty → Type 0
AllFree [] = Unit {0}
AllFree (A ∷ G) = PropFree A × AllFree G

abbrev FreeIn : Option Ty → Type 0
FreeIn None = Unit {0}
FreeIn (Some A) = PropFree A

free_in : (G : List Ty) (i : ℕ) → AllFree G → FreeIn (type_at G i)
free_in [] i f = tt
free_in (A ∷ G) zero f = f.0
free_in (A ∷ G) (suc i) f = free_in G i f.1

abbrev from_type : Ty → Ty
from_type (kind k) = kind k
from_type (arrow A B) = A

abbrev to_type : Ty → Ty
to_type (kind k) = kind k
to_type (arrow A B) = B

all_any : (ts : Terms ℕ (List ℕ)) → AllStandIn any ts
all_any no_terms = tt
all_any (term t ts) = (tt, all_any ts)

module _ (sg : Signature) where
  inverted : {G : List Ty} {h : Head ℕ} {ts : Terms ℕ (List ℕ)} {A : Ty} → HasType sg G (spine h ts) A → (B : Ty) × (head_type sg G h ≡ Some B) × TakeType sg G ts B A
  inverted (typed_spine {A = B} e ds) = (B, e, ds)

  logical_takes : {G : List Ty} {l : Logical} {ts : Terms ℕ (List ℕ)} {A : Ty} → HasType sg G (spine (logical l) ts) A → TakeType sg G ts (logical_type l) A
  logical_takes {G = G} {l = l} {ts = ts} {A = A} d =
      let i = inverted d in
      subst (λ C. TakeType sg G ts C A) (ap (λ o. unwrap_or o prop) (sym i.1)) i.2

  took : {G : List Ty} {t : Read} {ts : Terms ℕ (List ℕ)} {A C : Ty} → TakeType sg G (term t ts) A C → (B D : Ty) × (A ≡ arrow B D) × HasType sg G t B × TakeType sg G ts D C
  took (take_term {A = B} {B = D} d ds) = (B, D, refl, d, ds)

  no_prop : {G : List Ty} {ts : Terms ℕ (List ℕ)} {A : Ty} → TakeType sg G ts A prop → PropFree A → ⊥
  no_prop take_none f = f refl
  no_prop (take_term d ds) f = no_prop ds f.1

  nothing_more : {G : List Ty} {k : List ℕ} {B : Ty} (ts : Terms ℕ (List ℕ)) → TakeType sg G ts (kind k) B → AllStandIn a_scope ts
  nothing_more no_terms d = tt
  nothing_more (term t ts) d = elim d [ ]

  body_typed : {G : List Ty} {A B C : Ty} {x : List ℕ} {t : Read} → HasType sg G (lam C x t) (arrow A B) → HasType sg (A ∷ G) t B
  body_typed (typed_lam d) = d

  -- what the head makes of its arguments
  chosen : (G : List Ty) (l : Logical) (ts : Terms ℕ (List ℕ))
      → ((A : Ty) → IsConnective A → TakeType sg G ts A prop → AllStandIn a_formula ts)
      → ((A : Ty) → PropFree A → TakeType sg G ts (arrow (arrow A prop) prop) prop → AllStandIn a_scope ts)
      → IsOrdinaryConstant l → TakeType sg G ts (logical_type l) prop → AllStandIn (places_of_constant l) ts
  chosen G truth ts formulas scopes p d = all_any ts
  chosen G falsity ts formulas scopes p d = all_any ts
  chosen G conjunction ts formulas scopes p d = formulas (arrows (prop ∷ prop ∷ []) prop) (refl, (refl, tt)) d
  chosen G disjunction ts formulas scopes p d = formulas (arrows (prop ∷ prop ∷ []) prop) (refl, (refl, tt)) d
  chosen G implication ts formulas scopes p d = formulas (arrows (prop ∷ prop ∷ []) prop) (refl, (refl, tt)) d
  chosen G (equality A) ts formulas scopes p d = all_any ts
  chosen G (universal A) ts formulas scopes p d = scopes A p d
  chosen G (existential A) ts formulas scopes p d = scopes A p d
  chosen G (nabla A) ts formulas scopes p d = scopes A p d
  chosen G judgement ts formulas scopes p d = all_any ts
  chosen G focused_judgement ts formulas scopes p d = all_any ts
  chosen G (star i) ts formulas scopes p d = absurd p
  chosen G (at_sign i) ts formulas scopes p d = absurd p
  chosen G (plus i) ts formulas scopes p d = absurd p
  chosen G (hash i) ts formulas scopes p d = absurd p
  chosen G (spec_universal A) ts formulas scopes p d = all_any ts
  chosen G spec_implication ts formulas scopes p d = all_any ts
  chosen G spec_conjunction ts formulas scopes p d = all_any ts

  mutual
    pub stands : (F : Read) (G : List Ty) → AllFree G → AreHeads IsOrdinary F → HasType sg G F prop → StandsIn a_formula F
    stands (lam A x t) G f h d = elim d [ ]
    stands (spine (constant c) ts) G f h d = (tt, all_any ts)
    stands (spine (nominal a) ts) G f h d = (tt, all_any ts)
    stands (spine (variable x) ts) G f h d = let i = inverted d in absurd (no_prop i.2 (subst FreeIn i.1 h.0))
    stands (spine (index j) ts) G f h d = let i = inverted d in absurd (no_prop i.2 (subst FreeIn i.1 (free_in G j f)))
    stands (spine (logical l) ts) G f h d =
        (tt, chosen G l ts (λ A c e. all_formulas ts G f h.1 A c e) (λ A p e. all_scopes ts G f h.1 A p e) h.0 (logical_takes d))

    all_formulas : (ts : Terms ℕ (List ℕ)) (G : List Ty) → AllFree G → AreAllHeads IsOrdinary ts → (A : Ty) → IsConnective A → TakeType sg G ts A prop → AllStandIn a_formula ts
    all_formulas no_terms G f h A c d = tt
    all_formulas (term t ts) G f h A c d =
        let k = took d in
        let both = subst IsConnective k.2 c in
        (stands t G f h.0 (subst (HasType sg G t) both.0 k.3), all_formulas ts G f h.1 k.1 both.1 k.4)

    all_scopes : (ts : Terms ℕ (List ℕ)) (G : List Ty) → AllFree G → AreAllHeads IsOrdinary ts → (A : Ty) → PropFree A → TakeType sg G ts (arrow (arrow A prop) prop) prop → AllStandIn a_scope ts
    all_scopes no_terms G f h A p d = tt
    all_scopes (term t ts) G f h A p d =
        let k = took d in (
          scope t G f h.0 A p (subst (HasType sg G t) (ap from_type (sym k.2)) k.3),
          nothing_more ts (subst (λ D. TakeType sg G ts D prop) (ap to_type (sym k.2)) k.4),
        )

    scope : (t : Read) (G : List Ty) → AllFree G → AreHeads IsOrdinary t → (A : Ty) → PropFree A → HasType sg G t (arrow A prop) → StandsIn a_scope t
    scope (lam C x b) G f h A p d = stands b (A ∷ G) (p, f) h (body_typed d)
    scope (spine g ts) G f h A p d = elim d [ ]
