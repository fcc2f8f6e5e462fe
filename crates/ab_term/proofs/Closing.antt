-- A term abstracted over names: it is well-typed, and given the names it is the term again.
use Rattle.std.proofs.Common.{◌≡◌, ℕ, zero, suc, List, [], ◌∷◌, Bool, true, false, cond, Some, option_map, refl, sym, ◌∙◌, ap, subst}
use Rattle.ab_term.specs.Types.{Ty, kind, arrow, IsFirstOrder}
use Rattle.ab_term.specs.Terms.{Head, index, Term, lam, spine, Terms, no_terms, term}
use Rattle.ab_term.specs.Typing.{Signature, type_at, head_type, HasType, TakeType, typed_lam, typed_spine, take_none, take_term}
use Rattle.ab_term.specs.Substitution.{shift_head, lower_head, put, reduce, substitute, substitute_all}
use Rattle.ab_term.specs.Expansion.{expansion}
use Rattle.ab_term.specs.Translation.{translate_head, forget, forget_all}
use Rattle.ab_term.proofs.Preservation.{Insert, here, there, head_type-shift}
use Rattle.ab_term.proofs.Expansions.{lower_index-same, shift-expansion_of, reduce-expansion_of, reduce-first_order}
use Rattle.ab_term.proofs.Shifts.{lower_head-shift_head}
use Rattle.ab_term.specs.Sameness.{same_head}
use Rattle.ab_term.specs.Abstraction.{close_head, close, close_all, abstracted, Named, named_none, named_more}
use Rattle.ab_term.proofs.Forgetting.{forget_head}
use Rattle.ab_term.proofs.Same.{same_head-Decides}

pub type_at-insert : {k : ℕ} {A : Ty} {G H : List Ty} → Insert k A G H → type_at H k ≡ Some A
type_at-insert here = refl
type_at-insert (there p) = type_at-insert p

module _ (sg : Signature) where
  close_head-typed : {k : ℕ} {A : Ty} {G H : List Ty} → Insert k A G H → (h g : Head ℕ) → head_type sg G h ≡ Some A → head_type sg H (close_head k h g) ≡ head_type sg G g
  close_head-typed {k = k} {G = G} {H = H} p h g e = go (same_head g h) refl
    where
      go : (b : Bool) → same_head g h ≡ b → head_type sg H (cond b (index k) (shift_head k g)) ≡ head_type sg G g
      go true s = type_at-insert p ∙ sym e ∙ sym (ap (head_type sg G) ((same_head-Decides g h).0 s))
      go false s = head_type-shift sg p g

module _ (sg : Signature) {Hint : Type 0} where
  mutual
    pub close_typed : {k : ℕ} {A B : Ty} {G H : List Ty} {t : Term ℕ Hint} (h : Head ℕ) → Insert k A G H → head_type sg G h ≡ Some A → HasType sg G t B → HasType sg H (close k h t) B
    close_typed h p e (typed_lam d) = typed_lam (close_typed (shift_head zero h) (there p) (head_type-shift sg here h ∙ e) d)
    close_typed h p e (typed_spine {h = g} f ds) = typed_spine (close_head-typed sg p h g e ∙ f) (close_all_typed h p e ds)

    pub close_all_typed : {k : ℕ} {A B C : Ty} {G H : List Ty} {ts : Terms ℕ Hint} (h : Head ℕ) → Insert k A G H → head_type sg G h ≡ Some A → TakeType sg G ts B C → TakeType sg H (close_all k h ts) B C
    close_all_typed h p e take_none = take_none
    close_all_typed h p e (take_term d ds) = take_term (close_typed h p e d) (close_all_typed h p e ds)

  pub abstracted_typed : (x : Hint) {G : List Ty} {A C : Ty} {t : Term ℕ Hint} {hs : List (Head ℕ)} → Named sg G hs A C → HasType sg G t C → HasType sg G (abstracted x A hs t) A
  abstracted_typed x named_none d = d
  abstracted_typed x (named_more {h = h} e es) d = typed_lam (close_typed h here e (abstracted_typed x es d))

module _ {Hint : Type 0} where
  mutual
    pub forget-close : (k : ℕ) (h : Head ℕ) (t : Term ℕ Hint) → forget (close k h t) ≡ close k h (forget t)
    forget-close k h (lam A x t) = ap (lam A tt) (forget-close (suc k) (shift_head zero h) t)
    forget-close k h (spine g ts) =
        ap (λ f. spine f (forget_all (close_all k h ts))) (forget_head (close_head k h g) ∙ sym (ap (close_head k h) (forget_head g)))
        ∙ ap (spine (close_head k h (translate_head (λ v. v) g))) (forget_all-close k h ts)

    pub forget_all-close : (k : ℕ) (h : Head ℕ) (ts : Terms ℕ Hint) → forget_all (close_all k h ts) ≡ close_all k h (forget_all ts)
    forget_all-close k h no_terms = refl
    forget_all-close k h (term t ts) = ap (λ s. term s (forget_all (close_all k h ts))) (forget-close k h t) ∙ ap (term (close k h (forget t))) (forget_all-close k h ts)

  pub forget-abstracted : (x : Hint) (A : Ty) (hs : List (Head ℕ)) (t : Term ℕ Hint) → forget (abstracted x A hs t) ≡ abstracted tt A hs (forget t)
  forget-abstracted x A [] t = refl
  forget-abstracted x (kind k) (h ∷ hs) t = refl
  forget-abstracted x (arrow A B) (h ∷ hs) t = ap (lam A tt) (forget-close zero h (abstracted x B hs t) ∙ ap (close zero h) (forget-abstracted x B hs t))

-- the form of the head, put in for the index that was made of it, where that form given arguments is the head with them
module _ (sg : Signature) {Hint : Type 0} (x : Hint) (A : Ty) (given : (G : List Ty) (h : Head ℕ) (ts : Terms ℕ Hint) (c : List ℕ) → TakeType sg G ts A (kind c) → reduce A (expansion x A h) ts ≡ spine h ts) where
  closed_head : (k : ℕ) (h g : Head ℕ) (G : List Ty) (D : Ty) (ts ss : Terms ℕ Hint) (c : List ℕ) → head_type sg G h ≡ Some A → head_type sg G g ≡ Some D → TakeType sg G ts D (kind c) → ss ≡ ts
      → put (reduce A) (expansion x A h) (lower_head k (close_head k h g)) ss ≡ spine g ts
  closed_head k h g G D ts ss c e f ds s = go (same_head g h) refl
    where
      go : (b : Bool) → same_head g h ≡ b → put (reduce A) (expansion x A h) (lower_head k (cond b (index k) (shift_head k g))) ss ≡ spine g ts
      go true q =
          let equal : g ≡ h = (same_head-Decides g h).0 q in
          let some : Some D ≡ Some A = sym f ∙ ap (head_type sg G) equal ∙ e in
          let same : D ≡ A = cc in
          ap (λ o. put (reduce A) (expansion x A h) (option_map index o) ss) (lower_index-same k)
          ∙ ap (reduce A (expansion x A h)) s
          ∙ given G h ts c (subst (λ E. TakeType sg G ts E (kind c)) same ds)
          ∙ ap (λ k. spine k ts) (sym equal)
      go false q = ap (λ o. put (reduce A) (expansion x A h) o ss) (lower_head-shift_head k g) ∙ ap (spine g) s

  mutual
    pub opened-closed : {B : Ty} {G : List Ty} (k : ℕ) (h : Head ℕ) {t : Term ℕ Hint} → head_type sg G h ≡ Some A → HasType sg G t B → substitute A (expansion x A h) k (close k h t) ≡ t
    opened-closed k h e (typed_lam {A = D} {x = y} {t = t} d) =
        ap (lam D y) (ap (λ w. substitute A w (suc k) (close (suc k) (shift_head zero h) t)) (shift-expansion_of x A zero h no_terms) ∙ opened-closed (suc k) (shift_head zero h) (head_type-shift sg here h ∙ e) d)
    opened-closed {G = G} k h e (typed_spine {A = D} {h = g} {ts = ts} {k = c} f ds) = closed_head k h g G D ts (substitute_all A (expansion x A h) k (close_all k h ts)) c e f ds (all_opened-closed k h e ds)

    all_opened-closed : {B C : Ty} {G : List Ty} (k : ℕ) (h : Head ℕ) {ts : Terms ℕ Hint} → head_type sg G h ≡ Some A → TakeType sg G ts B C → substitute_all A (expansion x A h) k (close_all k h ts) ≡ ts
    all_opened-closed k h e take_none = refl
    all_opened-closed k h e (take_term {t = t} {ts = ts} d ds) =
        ap (λ s. term s (substitute_all A (expansion x A h) k (close_all k h ts))) (opened-closed k h e d) ∙ ap (term t) (all_opened-closed k h e ds)

module _ (sg : Signature) where
  -- on terms without hints
  pub substitute-close : {A B : Ty} {G : List Ty} (k : ℕ) (h : Head ℕ) {t : Term ℕ (Unit {0})} → head_type sg G h ≡ Some A → HasType sg G t B → substitute A (expansion tt A h) k (close k h t) ≡ t
  substitute-close {A = A} k h e d = opened-closed sg tt A (λ G g ts c ds. reduce-expansion_of sg ℕ A G g no_terms ts c ds) k h e d

module _ (sg : Signature) {Hint : Type 0} (x : Hint) where
  -- of a head whose arguments are of kinds, hints included
  pub substitute-close_hints : {A B : Ty} {G : List Ty} (k : ℕ) (h : Head ℕ) {t : Term ℕ Hint} → IsFirstOrder A → head_type sg G h ≡ Some A → HasType sg G t B → substitute A (expansion x A h) k (close k h t) ≡ t
  substitute-close_hints {A = A} k h f e d = opened-closed sg x A (λ G g ts c ds. reduce-first_order sg x g no_terms ds f) k h e d
