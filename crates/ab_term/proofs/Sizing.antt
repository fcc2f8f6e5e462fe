-- The size of a term is kept by shifts, renamings, translations and closing; given names, a term is smaller by the
-- binders that go.
use Rattle.std.proofs.Common.{◌≡◌, ℕ, zero, suc, ◌+◌, ◌≤◌, List, [], ◌∷◌, length, Option, Some, None, refl, sym, ◌∙◌, ap, subst, arith}
use Rattle.ab_term.specs.Types.{Ty, kind, arrow, arity}
use Rattle.ab_term.specs.Terms.{Nominal, Head, Term, lam, spine, Terms, no_terms, term}
use Rattle.ab_term.specs.Typing.{Signature, head_type, HasType, TakeType, typed_lam, typed_spine, take_none, take_term}
use Rattle.ab_term.specs.Substitution.{shift_head, shift, shift_all, lower_head, put, reduce, substitute, substitute_all}
use Rattle.ab_term.specs.Expansion.{expansion}
use Rattle.ab_term.specs.Translation.{translate, translate_all}
use Rattle.ab_term.specs.Names.{rename, rename_all}
use Rattle.ab_term.specs.Sizes.{size, sizes}
use Rattle.ab_term.specs.Abstraction.{Named, named_none, named_more, name_terms, close, close_all, abstracted}
use Rattle.ab_term.proofs.Preservation.{Insert, here, there, head_type-shift, reduce_typed, substitute_typed, substitute_all_by_typed}
use Rattle.ab_term.proofs.Expansions.{shift-expansion_of, reduce-expansion_of, reduce-no_terms, expansion_typed}
use Rattle.ab_term.proofs.Translations.{translate-reduce, translate_typed}
use Rattle.ab_term.proofs.Hinted.{forget-names}
use Rattle.ab_term.proofs.Lowering.{lower_head-none}
use Rattle.ab_term.proofs.Closing.{type_at-insert}

module _ {Var Hint : Type 0} where
  mutual
    pub size-shift : (k : ℕ) (t : Term Var Hint) → size (shift k t) ≡ size t
    size-shift k (lam A x t) = ap suc (size-shift (suc k) t)
    size-shift k (spine h ts) = ap suc (sizes-shift k ts)

    sizes-shift : (k : ℕ) (ts : Terms Var Hint) → sizes (shift_all k ts) ≡ sizes ts
    sizes-shift k no_terms = refl
    sizes-shift k (term t ts) = ap (λ n. n + sizes (shift_all k ts)) (size-shift k t) ∙ ap (λ n. size t + n) (sizes-shift k ts)

  mutual
    pub size-rename : (m : Nominal → Nominal) (t : Term Var Hint) → size (rename m t) ≡ size t
    size-rename m (lam A x t) = ap suc (size-rename m t)
    size-rename m (spine h ts) = ap suc (sizes-rename m ts)

    sizes-rename : (m : Nominal → Nominal) (ts : Terms Var Hint) → sizes (rename_all m ts) ≡ sizes ts
    sizes-rename m no_terms = refl
    sizes-rename m (term t ts) = ap (λ n. n + sizes (rename_all m ts)) (size-rename m t) ∙ ap (λ n. size t + n) (sizes-rename m ts)

module _ {Var Hint New NewHint : Type 0} (f : Var → New) (g : Hint → NewHint) where
  mutual
    pub size-translate : (t : Term Var Hint) → size (translate f g t) ≡ size t
    size-translate (lam A x t) = ap suc (size-translate t)
    size-translate (spine h ts) = ap suc (sizes-translate ts)

    pub sizes-translate : (ts : Terms Var Hint) → sizes (translate_all f g ts) ≡ sizes ts
    sizes-translate no_terms = refl
    sizes-translate (term t ts) = ap (λ n. n + sizes (translate_all f g ts)) (size-translate t) ∙ ap (λ n. size t + n) (sizes-translate ts)

module _ {Hint : Type 0} where
  mutual
    pub size-close : (k : ℕ) (h : Head ℕ) (t : Term ℕ Hint) → size (close k h t) ≡ size t
    size-close k h (lam A x t) = ap suc (size-close (suc k) (shift_head zero h) t)
    size-close k h (spine g ts) = ap suc (sizes-close k h ts)

    sizes-close : (k : ℕ) (h : Head ℕ) (ts : Terms ℕ Hint) → sizes (close_all k h ts) ≡ sizes ts
    sizes-close k h no_terms = refl
    sizes-close k h (term t ts) = ap (λ n. n + sizes (close_all k h ts)) (size-close k h t) ∙ ap (λ n. size t + n) (sizes-close k h ts)

  pub size-abstracted : (x : Hint) (A : Ty) (hs : List (Head ℕ)) (t : Term ℕ Hint) → length hs ≤ arity A → size (abstracted x A hs t) ≡ length hs + size t
  size-abstracted x A [] t l = omega arith
  size-abstracted x (kind k) (h ∷ hs) t l = absurd (omega (arith, l))
  size-abstracted x (arrow A B) (h ∷ hs) t l = omega (arith, size-close zero h (abstracted x B hs t), size-abstracted x B hs t (omega (arith, l)))

-- names for names keep sizes
module _ (sg : Signature) where
  size-put : (A : Ty) (k : ℕ) (h g : Head ℕ) (G H : List Ty) (D : Ty) (ss : Terms ℕ (Unit {0})) (c : List ℕ) → head_type sg G h ≡ Some A → Insert k A G H → head_type sg H g ≡ Some D → TakeType sg G ss D (kind c) → size (put (reduce A) (expansion tt A h) (lower_head k g) ss) ≡ suc (sizes ss)
  size-put A k h g G H D ss c e p f ds = go (lower_head k g) refl
    where
      go : (o : Option (Head ℕ)) → lower_head k g ≡ o → size (put (reduce A) (expansion tt A h) o ss) ≡ suc (sizes ss)
      go None q =
          let some : Some D ≡ Some A = sym f ∙ ap (head_type sg H) (lower_head-none k g q) ∙ type_at-insert p in
          let same : D ≡ A = cc in
          ap size (reduce-expansion_of sg ℕ A G h no_terms ss c (subst (λ E. TakeType sg G ss E (kind c)) same ds))
      go (Some j) q = refl

  mutual
    pub size-name : {A B : Ty} {k : ℕ} {G H : List Ty} (h : Head ℕ) {t : Term ℕ (Unit {0})} → head_type sg G h ≡ Some A → Insert k A G H → HasType sg H t B → size (substitute A (expansion tt A h) k t) ≡ size t
    size-name {A = A} {k = k} h e p (typed_lam {t = t} d) =
        ap (λ w. suc (size (substitute A w (suc k) t))) (shift-expansion_of tt A zero h no_terms)
        ∙ ap suc (size-name (shift_head zero h) (head_type-shift sg here h ∙ e) (there p) d)
    size-name {A = A} {k = k} {G = G} {H = H} h e p (typed_spine {A = D} {h = g} {ts = ts} {k = c} f ds) =
        size-put A k h g G H D (substitute_all A (expansion tt A h) k ts) c e p f (substitute_all_by_typed sg (reduce_typed sg A) (expansion_typed sg tt A G h e) p ds) ∙ ap suc (sizes-name h e p ds)

    sizes-name : {A B C : Ty} {k : ℕ} {G H : List Ty} (h : Head ℕ) {ts : Terms ℕ (Unit {0})} → head_type sg G h ≡ Some A → Insert k A G H → TakeType sg H ts B C → sizes (substitute_all A (expansion tt A h) k ts) ≡ sizes ts
    sizes-name h e p take_none = refl
    sizes-name {A = A} {k = k} h e p (take_term {t = t} {ts = ts} d ds) =
        ap (λ n. n + sizes (substitute_all A (expansion tt A h) k ts)) (size-name h e p d) ∙ ap (λ n. size t + n) (sizes-name h e p ds)

  -- given names
  pub size-given : {G : List Ty} {A C : Ty} {hs : List (Head ℕ)} (v : Term ℕ (Unit {0})) → Named sg G hs A C → HasType sg G v A → size (reduce A v (name_terms tt A hs)) + length hs ≡ size v
  size-given v (named_none {A = A}) d = ap (λ n. n + 0) (ap size (reduce-no_terms A v)) ∙ omega arith
  size-given {G = G} _ (named_more {A = A} {B = B} {h = h} {hs = hs} e n) (typed_lam {t = t} d) =
      let rest = size-given (substitute A (expansion tt A h) zero t) n (substitute_typed sg (expansion_typed sg tt A G h e) here d) in
      let one = size-name h e here d in
      omega (arith, rest, one)

module _ (sg : Signature) {Hint : Type 0} (x : Hint) where
  pub size-given_hints : {G : List Ty} {A C : Ty} {hs : List (Head ℕ)} (v : Term ℕ Hint) → Named sg G hs A C → HasType sg G v A → size (reduce A v (name_terms x A hs)) + length hs ≡ size v
  size-given_hints {A = A} {hs = hs} v n d =
      ap (λ s. s + length hs)
      (sym (size-translate (λ v. v) (λ y. tt) (reduce A v (name_terms x A hs)))
      ∙ ap size (translate-reduce (λ v. v) (λ y. tt) A v (name_terms x A hs))
      ∙ ap (λ ts. size (reduce A (translate (λ v. v) (λ y. tt) v) ts)) (forget-names x A hs))
      ∙ size-given sg (translate (λ v. v) (λ y. tt) v) n (translate_typed sg (λ v. v) (λ y. tt) d)
      ∙ size-translate (λ v. v) (λ y. tt) v
