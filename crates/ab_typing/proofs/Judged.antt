-- Terms and their types, node by node.
use Rattle.std.proofs.Common.{◌≡◌, ◌↔◌, ℕ, zero, suc, ◌+◌, ◌<◌, ◌≤◌, List, [], ◌∷◌, ◌++◌, map, drop, length, get_or, Bool, true, Some, None, refl, sym, ap, ◌∙◌, subst, arith, add-one, drop-cons}
use Rattle.ab_term.specs.Types.{Ty, kind, arrow}
use Rattle.ab_term.specs.Terms.{Head, constant, logical, nominal, variable, index, Term, lam, spine, Terms, no_terms, term, terms_of}
use Rattle.ab_term.specs.Typing.{Signature, type_at, head_type, HasType, TakeType, typed_lam, typed_spine, take_none, take_term}
use Rattle.ab_term.specs.Reach.{head_reach, reach, reach_of_all}
use Rattle.ab_store.specs.ab_types.specs.Entries.{Table, signature}
use Rattle.ab_store.specs.ab_types.specs.Ids.{type_of, seen_type}
use Rattle.ab_store.specs.ab_types.specs.declared.ids.KindId.{KindId}
use Rattle.ab_store.specs.ab_types.specs.declared.ids.TypeId.{TypeId}
use Rattle.ab_store.specs.ab_types.specs.declared.ids.TypeView.{TypeView}
use Rattle.ab_store.specs.ab_types.specs.declared.ids.TypeView.TheVariants.{Base}
use Rattle.ab_store.specs.declared.node.TermId.{TermId}
use Rattle.ab_store.specs.declared.node.Head as kept
use Rattle.ab_store.specs.declared.node.Node.{Node}
use Rattle.ab_store.specs.declared.node.Node.TheVariants.{Lam, Spine}
use Rattle.ab_store.specs.Trees.{Contents, tree_of, head_reading, node_tree}
use Rattle.ab_typing.specs.HeadArguments.{IsKind, context, IsOf}
use Rattle.ab_typing.proofs.Contexts.{context_push}

-- no free index: no context is needed

type_at-within : (D G : List Ty) (i : ℕ) (A : Ty) → i < length D → type_at (D ++ G) i ≡ Some A → type_at D i ≡ Some A
type_at-within [] G i A h e = absurd (omega arith)
type_at-within (B ∷ D) G zero A h e = e
type_at-within (B ∷ D) G (suc i) A h e = type_at-within D G i A (omega arith) e

module _ (sg : Signature) {Var : Type 0} where
  head_within : (D G : List Ty) (h : Head Var) (A : Ty) → head_reach h ≤ length D → head_type sg (D ++ G) h ≡ Some A → head_type sg D h ≡ Some A
  head_within D G (constant c) A l e = e
  head_within D G (logical c) A l e = e
  head_within D G (nominal a) A l e = e
  head_within D G (variable x) A l e = e
  head_within D G (index i) A l e = type_at-within D G i A (omega arith) e

module _ (sg : Signature) {Var Hint : Type 0} where
  mutual
    within : {H : List Ty} {t : Term Var Hint} {A : Ty} (D G : List Ty) → H ≡ D ++ G → reach t ≤ length D → HasType sg H t A → HasType sg D t A
    within D G same l (typed_lam {A = B} d) = typed_lam (within (B ∷ D) G (ap (λ K. B ∷ K) same) (omega arith) d)
    within D G same l (typed_spine {A = A} {h = h} e ds) = typed_spine (head_within sg D G h A (omega arith) (subst (λ K. head_type sg K h ≡ Some A) same e)) (all_within D G same (omega arith) ds)

    all_within : {H : List Ty} {ts : Terms Var Hint} {A B : Ty} (D G : List Ty) → H ≡ D ++ G → reach_of_all ts ≤ length D → TakeType sg H ts A B → TakeType sg D ts A B
    all_within D G same l take_none = take_none
    all_within D G same l (take_term d ds) = take_term (within D G same (omega arith) d) (all_within D G same (omega arith) ds)

  pub closed_alone : (G : List Ty) (t : Term Var Hint) (A : Ty) → reach t ≤ 0 → HasType sg G t A → HasType sg [] t A
  closed_alone G t A l d = within [] G refl (omega arith) d

  -- abstractions

  pub lam_parts : (G : List Ty) (A B C : Ty) (x : Hint) (t : Term Var Hint) → HasType sg G (lam A x t) (arrow B C) → (A ≡ B) × HasType sg (B ∷ G) t C
  lam_parts G A B C x t (typed_lam d) = (refl, d)

  pub lam_is : (G : List Ty) (A B C : Ty) (x : Hint) (t : Term Var Hint) → A ≡ B → HasType sg (B ∷ G) t C → HasType sg G (lam A x t) (arrow B C)
  lam_is G A B C x t e d = subst (λ D. HasType sg G (lam D x t) (arrow B C)) (sym e) (typed_lam d)

  pub lam_no_kind : (G : List Ty) (A B : Ty) (x : Hint) (t : Term Var Hint) → IsKind B → HasType sg G (lam A x t) B → ⊥
  lam_no_kind G A (arrow B C) x t k d = absurd k
  lam_no_kind G A (kind c) x t k d = elim d [ ]

  -- heads with arguments

  pub spine_no_arrow : (G : List Ty) (h : Head Var) (ts : Terms Var Hint) (A B : Ty) → HasType sg G (spine h ts) (arrow A B) → ⊥
  spine_no_arrow G h ts A B d = elim d [ ]

  pub spine_parts : (G : List Ty) (h : Head Var) (ts : Terms Var Hint) (A B : Ty) → head_type sg G h ≡ Some A → HasType sg G (spine h ts) B → TakeType sg G ts A B
  spine_parts G h ts A (kind k) e (typed_spine {A = C} f ds) = subst (λ D. TakeType sg G ts D (kind k)) (let both : Some C ≡ Some A = sym f ∙ e in cc) ds
  spine_parts G h ts A (arrow B C) e d = elim d [ ]

  pub spine_is : (G : List Ty) (h : Head Var) (ts : Terms Var Hint) (A B : Ty) → IsKind B → head_type sg G h ≡ Some A → TakeType sg G ts A B → HasType sg G (spine h ts) B
  spine_is G h ts A (kind k) is e ds = typed_spine e ds
  spine_is G h ts A (arrow B C) is e ds = absurd is

  pub no_head : (G : List Ty) (h : Head Var) (ts : Terms Var Hint) (B : Ty) → head_type sg G h ≡ None → HasType sg G (spine h ts) B → ⊥
  no_head G h ts (kind k) e (typed_spine {A = C} f ds) = absurd (let both : Some C ≡ None = sym f ∙ e in cc)
  no_head G h ts (arrow B C) e d = elim d [ ]

  -- arguments, one by one

  pub none_taken : {G : List Ty} {A B : Ty} → TakeType sg {Var = Var} {Hint = Hint} G no_terms A B → A ≡ B
  none_taken take_none = refl

  pub one_taken : (G : List Ty) (t : Term Var Hint) (ts : Terms Var Hint) (A B C : Ty) → TakeType sg G (term t ts) (arrow A B) C → HasType sg G t A × TakeType sg G ts B C
  one_taken G t ts A B C (take_term d ds) = (d, ds)

  pub kind_takes_none : (G : List Ty) (t : Term Var Hint) (ts : Terms Var Hint) (A C : Ty) → IsKind A → TakeType sg G (term t ts) A C → ⊥
  kind_takes_none G t ts (arrow A B) C k d = absurd k
  kind_takes_none G t ts (kind c) C k d = elim d [ ]

-- the same on nodes

abbrev Takes : Table → Contents → List Ty → List TermId → Ty → Ty → Type 0
Takes types s G ts A B = TakeType (signature types) G (terms_of (map (tree_of types s) ts)) A B

drop_one : (ids : List TermId) (i : ℕ) (d : TermId) → i < length ids → drop i ids ≡ get_or ids i d ∷ drop (i + 1) ids
drop_one ids i d h = rw (add-one, drop-cons ids i d) refl

drop_all : (ids : List TermId) (i : ℕ) → length ids ≤ i → drop i ids ≡ []
drop_all [] zero h = refl
drop_all [] (suc i) h = refl
drop_all (t ∷ ids) zero h = absurd (omega arith)
drop_all (t ∷ ids) (suc i) h = drop_all ids i (omega arith)

module _ (types : Table) (s : Contents) (G : List Ty) (ids : List TermId) (i : ℕ) (R T : Ty) (X : Type 0) (so_far : Takes types s G (drop i ids) R T ↔ X) where
  module _ (d : TermId) (low : i < length ids) where
    here : X → TakeType (signature types) G (term (tree_of types s (get_or ids i d)) (terms_of (map (tree_of types s) (drop (i + 1) ids)))) R T
    here x = subst (λ l. Takes types s G l R T) (drop_one ids i d low) (so_far.1 x)

    back : TakeType (signature types) G (term (tree_of types s (get_or ids i d)) (terms_of (map (tree_of types s) (drop (i + 1) ids)))) R T → X
    back w = so_far.0 (subst (λ l. Takes types s G l R T) (sym (drop_one ids i d low)) w)

    pub stops : IsKind R → X → ⊥
    stops k x = kind_takes_none (signature types) G (tree_of types s (get_or ids i d)) (terms_of (map (tree_of types s) (drop (i + 1) ids))) R T k (here x)

    module _ (V W : Ty) (is : R ≡ arrow V W) where
      parts : X → HasType (signature types) G (tree_of types s (get_or ids i d)) V × Takes types s G (drop (i + 1) ids) W T
      parts x = one_taken (signature types) G (tree_of types s (get_or ids i d)) (terms_of (map (tree_of types s) (drop (i + 1) ids))) V W T
          (subst (λ A. TakeType (signature types) G (term (tree_of types s (get_or ids i d)) (terms_of (map (tree_of types s) (drop (i + 1) ids)))) A T) is (here x))

      pub fails : (IsOf types s G (get_or ids i d) V → ⊥) → X → ⊥
      fails wrong x = wrong (parts x).0

      pub goes_on : IsOf types s G (get_or ids i d) V → Takes types s G (drop (i + 1) ids) W T ↔ X
      goes_on typed = (λ w. back (subst (λ A. TakeType (signature types) G (term (tree_of types s (get_or ids i d)) (terms_of (map (tree_of types s) (drop (i + 1) ids)))) A T) (sym is) (take_term typed w)), λ x. (parts x).1)

  pub ends : (r : Bool) → length ids ≤ i → (r ≡ true) ↔ (R ≡ T) → (r ≡ true) ↔ X
  ends r low same = (
    λ e. so_far.0 (subst (λ l. Takes types s G l R T) (sym (drop_all ids i low)) (subst (λ A. Takes types s G [] R A) (same.0 e) take_none)),
    λ x. same.1 (none_taken (signature types) (subst (λ l. Takes types s G l R T) (drop_all ids i low) (so_far.1 x))),
  )

module _ (types : Table) (s : Contents) (t : TermId) (n : Node) (reads : tree_of types s t ≡ node_tree types s n) where
  pub function_judged : (names pushed : List TypeId) (ty from to : TypeId) (x : List ℕ) (body : TermId) (r : Bool) → n ≡ Lam ty x body
      → type_of types ty ≡ type_of types from → pushed ≡ names ++ from ∷ []
      → (r ≡ true) ↔ IsOf types s (context types pushed) body (type_of types to)
      → (r ≡ true) ↔ IsOf types s (context types names) t (arrow (type_of types from) (type_of types to))
  function_judged names pushed ty from to x body r is same push below =
      let under : context types pushed ≡ type_of types from ∷ context types names = ap (context types) push ∙ context_push types names from in
      subst (λ u. (r ≡ true) ↔ HasType (signature types) (context types names) u (arrow (type_of types from) (type_of types to))) (sym (reads ∙ ap (node_tree types s) is)) (
        λ e. lam_is (signature types) (context types names) (type_of types ty) (type_of types from) (type_of types to) x (tree_of types s body) same (subst (λ G. IsOf types s G body (type_of types to)) under (below.0 e)),
        λ w. below.1 (subst (λ G. IsOf types s G body (type_of types to)) (sym under) (lam_parts (signature types) (context types names) (type_of types ty) (type_of types from) (type_of types to) x (tree_of types s body) w).1),
      )

  pub applied_judged : (G : List Ty) (h : kept.Head) (ts given : List TermId) (A B : Ty) (r : Bool) → n ≡ Spine h ts → given ≡ ts → IsKind B
      → head_type (signature types) G (head_reading types s h) ≡ Some A
      → (r ≡ true) ↔ Takes types s G given A B → (r ≡ true) ↔ IsOf types s G t B
  applied_judged G h ts given A B r is same at_kind head below =
      subst (λ u. (r ≡ true) ↔ HasType (signature types) G u B) (sym (reads ∙ ap (node_tree types s) is)) (
        λ e. spine_is (signature types) G (head_reading types s h) (terms_of (map (tree_of types s) ts)) A B at_kind head (subst (λ l. Takes types s G l A B) same (below.0 e)),
        λ w. below.1 (subst (λ l. Takes types s G l A B) (sym same) (spine_parts (signature types) G (head_reading types s h) (terms_of (map (tree_of types s) ts)) A B head w)),
      )

pub kind_seen : (types : Table) (ty : TypeId) (v : TypeView) (k : KindId) → type_of types ty ≡ seen_type types v → v ≡ Base k → IsKind (type_of types ty)
kind_seen types ty v k reads is = subst IsKind (sym (reads ∙ ap (seen_type types) is)) tt
