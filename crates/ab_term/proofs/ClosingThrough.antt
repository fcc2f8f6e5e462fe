-- A head closed under a binder goes through shifts, eta-long forms, hereditary substitutions and images.
use Rattle.std.proofs.Common.{◌≡◌, ℕ, zero, suc, ◌≤◌, List, [], ◌∷◌, map, Bool, true, false, cond, Option, Some, None, option_map, refl, sym, ◌∙◌, ap, arith}
use Rattle.std.proofs.lemmas.Bool.{false≢true, false_from_ne_true}
use Rattle.ab_term.specs.Types.{Ty, kind, arrow}
use Rattle.ab_term.specs.Terms.{Head, constant, logical, nominal, variable, index, Term, lam, spine, Terms, no_terms, term, with_last}
use Rattle.ab_term.specs.Substitution.{shift_index, shift_head, shift, shift_all, lower_head, put, substitute_by, substitute_all_by, reduce, substitute, instance}
use Rattle.ab_term.specs.Expansion.{expansion_of, expansion}
use Rattle.ab_term.specs.Sameness.{same_head}
use Rattle.ab_term.specs.Abstraction.{close_head, close, close_all, name_terms}
use Rattle.ab_term.proofs.Shifts.{shift_head-shift_head, lower_head-shift_head}
use Rattle.ab_term.proofs.Expansions.{lower_index-same}
use Rattle.ab_term.proofs.Lowering.{lower_head-some, lower_head-none}
use Rattle.ab_term.proofs.Same.{same_head-Decides}
use Rattle.ab_term.proofs.Only.{close_head-inner, close_head-outer}

pub shift_index-from : (j k : ℕ) → j ≤ k → shift_index j k ≡ suc k
shift_index-from zero k l = refl
shift_index-from (suc j) zero l = absurd (omega (arith, l))
shift_index-from (suc j) (suc k) l = ap suc (shift_index-from j k (omega (arith, l)))

pub same_head-shifted : (j : ℕ) (g h : Head ℕ) → same_head (shift_head j g) (shift_head j h) ≡ same_head g h
same_head-shifted j g h = go (same_head g h) refl
  where
    back : shift_head j g ≡ shift_head j h → g ≡ h
    back e = let both : Some g ≡ Some h = sym (lower_head-shift_head j g) ∙ ap (lower_head j) e ∙ lower_head-shift_head j h in cc

    go : (b : Bool) → same_head g h ≡ b → same_head (shift_head j g) (shift_head j h) ≡ b
    go true e = (same_head-Decides (shift_head j g) (shift_head j h)).1 (ap (shift_head j) ((same_head-Decides g h).0 e))
    go false e = false_from_ne_true (same_head (shift_head j g) (shift_head j h)) (λ f. false≢true (sym e ∙ (same_head-Decides g h).1 (back ((same_head-Decides (shift_head j g) (shift_head j h)).0 f))))

pub close_head-shift : (j k : ℕ) (h g : Head ℕ) → j ≤ k → close_head (suc k) (shift_head j h) (shift_head j g) ≡ shift_head j (close_head k h g)
close_head-shift j k h g l = ap (λ b. cond b (index (suc k)) (shift_head (suc k) (shift_head j g))) (same_head-shifted j g h) ∙ go (same_head g h)
  where
    go : (b : Bool) → cond b (index (suc k)) (shift_head (suc k) (shift_head j g)) ≡ shift_head j (cond b (index k) (shift_head k g))
    go true = ap index (sym (shift_index-from j k l))
    go false = shift_head-shift_head j k g l

module _ {Hint : Type 0} where
  mutual
    pub close-shift : (j k : ℕ) (h : Head ℕ) (t : Term ℕ Hint) → j ≤ k → close (suc k) (shift_head j h) (shift j t) ≡ shift j (close k h t)
    close-shift j k h (lam A x t) l = ap (lam A x) (ap (λ g. close (suc (suc k)) g (shift (suc j) t)) (sym (shift_head-shift_head zero j h (omega arith))) ∙ close-shift (suc j) (suc k) (shift_head zero h) t (omega (arith, l)))
    close-shift j k h (spine g ts) l = ap (λ f. spine f (close_all (suc k) (shift_head j h) (shift_all j ts))) (close_head-shift j k h g l) ∙ ap (spine (shift_head j (close_head k h g))) (close_all-shift j k h ts l)

    pub close_all-shift : (j k : ℕ) (h : Head ℕ) (ts : Terms ℕ Hint) → j ≤ k → close_all (suc k) (shift_head j h) (shift_all j ts) ≡ shift_all j (close_all k h ts)
    close_all-shift j k h no_terms l = refl
    close_all-shift j k h (term t ts) l = ap (λ s. term s (close_all (suc k) (shift_head j h) (shift_all j ts))) (close-shift j k h t l) ∙ ap (term (shift j (close k h t))) (close_all-shift j k h ts l)

  pub close_all-with_last : (k : ℕ) (h : Head ℕ) (ts : Terms ℕ Hint) (t : Term ℕ Hint) → close_all k h (with_last ts t) ≡ with_last (close_all k h ts) (close k h t)
  close_all-with_last k h no_terms t = refl
  close_all-with_last k h (term s ts) t = ap (term (close k h s)) (close_all-with_last k h ts t)

module _ {Hint : Type 0} (x : Hint) where
  pub close-expansion_of : (A : Ty) (k : ℕ) (h g : Head ℕ) (ts : Terms ℕ Hint) → close k h (expansion_of x A g ts) ≡ expansion_of x A (close_head k h g) (close_all k h ts)
  close-expansion_of (kind c) k h g ts = refl
  close-expansion_of (arrow A B) k h g ts = ap (lam A x)
      (close-expansion_of B (suc k) (shift_head zero h) (shift_head zero g) (with_last (shift_all zero ts) (expansion x A (index zero)))
      ∙ ap (λ f. expansion_of x B f (close_all (suc k) (shift_head zero h) (with_last (shift_all zero ts) (expansion x A (index zero))))) (close_head-outer k h g)
      ∙ ap (expansion_of x B (shift_head zero (close_head k h g)))
      (close_all-with_last (suc k) (shift_head zero h) (shift_all zero ts) (expansion x A (index zero))
      ∙ ap (λ l. with_last l (close (suc k) (shift_head zero h) (expansion x A (index zero)))) (close_all-shift zero k h ts (omega arith))
      ∙ ap (with_last (shift_all zero (close_all k h ts))) (close-expansion_of A (suc k) (shift_head zero h) (index zero) no_terms ∙ ap (λ f. expansion x A f) (close_head-inner k h))))

  pub close-name_terms : (A : Ty) (k : ℕ) (h : Head ℕ) (gs : List (Head ℕ)) → close_all k h (name_terms x A gs) ≡ name_terms x A (map (close_head k h) gs)
  close-name_terms A k h [] = refl
  close-name_terms (kind c) k h (g ∷ gs) = refl
  close-name_terms (arrow A B) k h (g ∷ gs) = ap (λ s. term s (close_all k h (name_terms x B gs))) (close-expansion_of A k h g no_terms) ∙ ap (term (expansion x A (close_head k h g))) (close-name_terms B k h gs)

pub shift_index-below : (k i : ℕ) → suc i ≤ k → shift_index k i ≡ i
shift_index-below zero i l = absurd (omega (arith, l))
shift_index-below (suc k) zero l = refl
shift_index-below (suc k) (suc i) l = ap suc (shift_index-below k i (omega (arith, l)))

-- a shifted head is never the binder's own index
shift_index-other : (j i : ℕ) → shift_index j i ≡ j → ⊥
shift_index-other zero i e = absurd (omega (arith, e))
shift_index-other (suc j) zero e = absurd (omega (arith, e))
shift_index-other (suc j) (suc i) e = shift_index-other j i (omega (arith, e))

same_own : (j : ℕ) (h : Head ℕ) → same_head (index j) (shift_head j h) ≡ false
same_own j h = false_from_ne_true (same_head (index j) (shift_head j h)) (λ e. other h ((same_head-Decides (index j) (shift_head j h)).0 e))
  where
    other : (h : Head ℕ) → index j ≡ shift_head j h → ⊥
    other (constant c) e = cc
    other (logical l) e = cc
    other (nominal a) e = cc
    other (variable y) e = cc
    other (index i) e = shift_index-other j i (let same : shift_index j i ≡ j = cc in same)

lower_index_here : (j : ℕ) → lower_head {Var = ℕ} j (index j) ≡ None
lower_index_here j = ap (option_map index) (lower_index-same j)

-- a head from which the binder at j goes, closed before and after
lower-close_head : (j k : ℕ) (h g : Head ℕ) → j ≤ k → lower_head j (close_head (suc k) (shift_head j h) g) ≡ option_map (close_head k h) (lower_head j g)
lower-close_head j k h g l = go (lower_head j g) refl
  where
    go : (o : Option (Head ℕ)) → lower_head j g ≡ o → lower_head j (close_head (suc k) (shift_head j h) g) ≡ option_map (close_head k h) o
    go None e =
        let own : g ≡ index j = lower_head-none j g e in
        ap (λ i. lower_head j (close_head (suc k) (shift_head j h) i)) own
        ∙ ap (λ b. lower_head j (cond b (index (suc k)) (index (shift_index (suc k) j)))) (same_own j h)
        ∙ ap (λ i. lower_head j (index i)) (shift_index-below (suc k) j (omega (arith, l)))
        ∙ lower_index_here j
    go (Some i) e =
        let shifted : g ≡ shift_head j i = lower_head-some j g i e in
        ap (λ f. lower_head j (close_head (suc k) (shift_head j h) f)) shifted
        ∙ ap (lower_head j) (close_head-shift j k h i l)
        ∙ lower_head-shift_head j (close_head k h i)

module _ {Hint : Type 0} where
  abbrev pub ClosesThrough : (Term ℕ Hint → Terms ℕ Hint → Term ℕ Hint) → Type 0
  ClosesThrough r = (k : ℕ) (h : Head ℕ) (u : Term ℕ Hint) (ts : Terms ℕ Hint) → close k h (r u ts) ≡ r (close k h u) (close_all k h ts)

  close-put : (r : Term ℕ Hint → Terms ℕ Hint → Term ℕ Hint) → ClosesThrough r → (k : ℕ) (h : Head ℕ) (u : Term ℕ Hint) (o : Option (Head ℕ)) (ts : Terms ℕ Hint) → close k h (put r u o ts) ≡ put r (close k h u) (option_map (close_head k h) o) (close_all k h ts)
  close-put r through k h u None ts = through k h u ts
  close-put r through k h u (Some g) ts = refl

  mutual
    close-substitute_by : (t : Term ℕ Hint) (r : Term ℕ Hint → Terms ℕ Hint → Term ℕ Hint) → ClosesThrough r → (u : Term ℕ Hint) (j k : ℕ) (h : Head ℕ) → j ≤ k → close k h (substitute_by r u j t) ≡ substitute_by r (close k h u) j (close (suc k) (shift_head j h) t)
    close-substitute_by (lam A x t) r through u j k h l =
        ap (lam A x)
        (close-substitute_by t r through (shift zero u) (suc j) (suc k) (shift_head zero h) (omega (arith, l))
        ∙ ap (λ w. substitute_by r w (suc j) (close (suc (suc k)) (shift_head (suc j) (shift_head zero h)) t)) (close-shift zero k h u (omega arith))
        ∙ ap (λ g. substitute_by r (shift zero (close k h u)) (suc j) (close (suc (suc k)) g t)) (shift_head-shift_head zero j h (omega arith)))
    close-substitute_by (spine g ts) r through u j k h l =
        close-put r through k h u (lower_head j g) (substitute_all_by r u j ts)
        ∙ ap (λ o. put r (close k h u) o (close_all k h (substitute_all_by r u j ts))) (sym (lower-close_head j k h g l))
        ∙ ap (put r (close k h u) (lower_head j (close_head (suc k) (shift_head j h) g))) (close_all-substitute_by ts r through u j k h l)

    close_all-substitute_by : (ts : Terms ℕ Hint) (r : Term ℕ Hint → Terms ℕ Hint → Term ℕ Hint) → ClosesThrough r → (u : Term ℕ Hint) (j k : ℕ) (h : Head ℕ) → j ≤ k → close_all k h (substitute_all_by r u j ts) ≡ substitute_all_by r (close k h u) j (close_all (suc k) (shift_head j h) ts)
    close_all-substitute_by no_terms r through u j k h l = refl
    close_all-substitute_by (term t ts) r through u j k h l =
        ap (λ s. term s (close_all k h (substitute_all_by r u j ts))) (close-substitute_by t r through u j k h l)
        ∙ ap (term (substitute_by r (close k h u) j (close (suc k) (shift_head j h) t))) (close_all-substitute_by ts r through u j k h l)

  -- it goes through a term that is given arguments
  pub close-reduce : (A : Ty) → ClosesThrough (reduce A)
  close-reduce (kind c) k h u ts = refl
  close-reduce (arrow A B) k h (lam C x t) no_terms = refl
  close-reduce (arrow A B) k h (lam C x t) (term v vs) =
      close-reduce B k h (substitute A v zero t) vs
      ∙ ap (λ s. reduce B s (close_all k h vs)) (close-substitute_by t (reduce A) (close-reduce A) v zero k h (omega arith))
  close-reduce (arrow A B) k h (spine g ss) ts = refl

  pub close-instance : (k : ℕ) (h : Head ℕ) (t u : Term ℕ Hint) → close k h (instance t u) ≡ instance (close k h t) (close k h u)
  close-instance k h (lam A x t) u = close-substitute_by t (reduce A) (close-reduce A) u zero k h (omega arith)
  close-instance k h (spine g ts) u = refl
