-- A type of a shifted term is one of the term; a term that names only the first bound names is typed by them.
use Rattle.std.proofs.Common.{◌≡◌, ℕ, zero, suc, ◌<◌, ◌≤◌, List, [], ◌∷◌, ◌++◌, length, Some, refl, sym, ◌∙◌, ap, subst, arith}
use Rattle.ab_term.specs.Types.{Ty, kind, arrow}
use Rattle.ab_term.specs.Terms.{Head, constant, logical, nominal, variable, index, Term, lam, spine, Terms, no_terms, term, with_last}
use Rattle.ab_term.specs.Typing.{Signature, type_at, head_type, HasType, TakeType, typed_lam, typed_spine, take_none, take_term}
use Rattle.ab_term.specs.Substitution.{shift_head, shift, shift_all}
use Rattle.ab_term.specs.Expansion.{expansion_of, expansion}
use Rattle.ab_term.specs.Reach.{head_reach, reach, reach_of_all}
use Rattle.ab_term.proofs.Preservation.{Insert, here, there, head_type-shift}
use Rattle.ab_term.proofs.Expansions.{expansion_typed}
use Rattle.ab_term.proofs.Unique.{one_type}

module _ (sg : Signature) {Var Hint : Type 0} where
  mutual
    pub unshift_typed : {k : ℕ} {D B : Ty} {G H : List Ty} (t : Term Var Hint) → Insert k D G H → HasType sg H (shift k t) B → HasType sg G t B
    unshift_typed (lam A x t) p (typed_lam d) = typed_lam (unshift_typed t (there p) d)
    unshift_typed (spine h ts) p (typed_spine e ds) = typed_spine (sym (head_type-shift sg p h) ∙ e) (unshift_all_typed ts p ds)

    pub unshift_all_typed : {k : ℕ} {D B C : Ty} {G H : List Ty} (ts : Terms Var Hint) → Insert k D G H → TakeType sg H (shift_all k ts) B C → TakeType sg G ts B C
    unshift_all_typed no_terms p take_none = take_none
    unshift_all_typed (term t ts) p (take_term d ds) = take_term (unshift_typed t p d) (unshift_all_typed ts p ds)

  -- the last of some arguments
  last_typed : {G : List Ty} {A C : Ty} (ts : Terms Var Hint) (t : Term Var Hint) → TakeType sg G (with_last ts t) A C → (B : Ty) × TakeType sg G ts A (arrow B C) × HasType sg G t B
  last_typed no_terms t (take_term {A = B} d take_none) = (B, take_none, d)
  last_typed (term s ts) t (take_term {A = D} d ds) = let r = last_typed ts t ds in (r.0, take_term d r.1, r.2)

  -- where the eta-long form of a head is typed, so is the head
  pub expansion_of_head : (x : Hint) (B E : Ty) (G : List Ty) (h : Head Var) (ts : Terms Var Hint) → HasType sg G (expansion_of x B h ts) E → (A : Ty) × (head_type sg G h ≡ Some A) × TakeType sg G ts A E
  expansion_of_head x (kind k) E G h ts (typed_spine {A = A} e ds) = (A, e, ds)
  expansion_of_head x (arrow B C) E G h ts (typed_lam {B = F} d) =
      let r = expansion_of_head x C F (B ∷ G) (shift_head zero h) (with_last (shift_all zero ts) (expansion x B (index zero))) d in
      let l = last_typed (shift_all zero ts) (expansion x B (index zero)) r.2 in
      let own : HasType sg (B ∷ G) (expansion x B (index zero)) B = expansion_typed sg x B (B ∷ G) (index zero) refl in
      let same : l.0 ≡ B = one_type sg l.2 own in
      (r.0, sym (head_type-shift sg here h) ∙ r.1, subst (λ D. TakeType sg G ts r.0 (arrow D F)) same (unshift_all_typed ts here l.1))

  none_typed : {G : List Ty} {D A : Ty} (ts : Terms Var Hint) → ts ≡ no_terms → TakeType sg G ts D A → D ≡ A
  none_typed ts e take_none = refl
  none_typed ts e (take_term {t = t} {ts = us} d ds) = absurd (let both : term t us ≡ no_terms = e in cc)

  pub expansion_head : (x : Hint) (A : Ty) (G : List Ty) (h : Head Var) → HasType sg G (expansion x A h) A → head_type sg G h ≡ Some A
  expansion_head x A G h d = let r = expansion_of_head x A A G h no_terms d in r.1 ∙ ap Some (none_typed no_terms refl r.2)

type_at-front : (Ds G : List Ty) (i : ℕ) → i < length Ds → type_at (Ds ++ G) i ≡ type_at Ds i
type_at-front [] G i l = absurd (omega (arith, l))
type_at-front (D ∷ Ds) G zero l = refl
type_at-front (D ∷ Ds) G (suc i) l = type_at-front Ds G i (omega (arith, l))

module _ (sg : Signature) {Var : Type 0} where
  head_type-front : (Ds G : List Ty) (h : Head Var) → head_reach h ≤ length Ds → head_type sg (Ds ++ G) h ≡ head_type sg Ds h
  head_type-front Ds G (constant c) l = refl
  head_type-front Ds G (logical m) l = refl
  head_type-front Ds G (nominal a) l = refl
  head_type-front Ds G (variable x) l = refl
  head_type-front Ds G (index i) l = type_at-front Ds G i (omega (arith, l))

module _ (sg : Signature) {Var Hint : Type 0} where
  mutual
    -- bound names that don't stand in a term are not needed for its type
    pub front_typed : {A : Ty} (Ds G : List Ty) (t : Term Var Hint) → reach t ≤ length Ds → HasType sg (Ds ++ G) t A → HasType sg Ds t A
    front_typed Ds G (lam B x t) l (typed_lam d) = typed_lam (front_typed (B ∷ Ds) G t (omega (arith, l)) d)
    front_typed Ds G (spine h ts) l (typed_spine e ds) = typed_spine (sym (head_type-front sg Ds G h (omega (arith, l))) ∙ e) (front_all_typed Ds G ts (omega (arith, l)) ds)

    front_all_typed : {A B : Ty} (Ds G : List Ty) (ts : Terms Var Hint) → reach_of_all ts ≤ length Ds → TakeType sg (Ds ++ G) ts A B → TakeType sg Ds ts A B
    front_all_typed Ds G no_terms l take_none = take_none
    front_all_typed Ds G (term t ts) l (take_term d ds) = take_term (front_typed Ds G t (omega (arith, l)) d) (front_all_typed Ds G ts (omega (arith, l)) ds)
