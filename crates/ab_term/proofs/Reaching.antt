-- Short cuts: a term whose free indices are all below k doesn't change at k; a shift by d is d shifts by one.
use Rattle.std.proofs.Common.{◌≡◌, ℕ, zero, suc, ◌+◌, ◌<◌, ◌≤◌, Some, option_map, refl, sym, ◌∙◌, ap, arith}
use Rattle.ab_term.specs.Terms.{Head, constant, logical, nominal, variable, index, Term, lam, spine, Terms, no_terms, term}
use Rattle.ab_term.specs.Substitution.{shift_index, shift_head, shift, shift_all, lower_index, lower_head, put, substitute_by, substitute_all_by}
use Rattle.ab_term.specs.Reach.{head_reach, reach, reach_of_all, raise_index, raise_head, raise, raise_all}

pub raise_index-below : (d k i : ℕ) → i < k → raise_index d k i ≡ i
raise_index-below d zero i h = absurd (omega arith)
raise_index-below d (suc k) zero h = refl
raise_index-below d (suc k) (suc i) h = ap suc (raise_index-below d k i (omega arith))

pub raise_index-from : (d k i : ℕ) → k ≤ i → raise_index d k i ≡ i + d
raise_index-from d zero i h = refl
raise_index-from d (suc k) zero h = absurd (omega arith)
raise_index-from d (suc k) (suc i) h = omega (arith, raise_index-from d k i (omega arith))

pub lower_index-below : (k i : ℕ) → i < k → lower_index k i ≡ Some i
lower_index-below zero i h = absurd (omega arith)
lower_index-below (suc k) zero h = refl
lower_index-below (suc k) (suc i) h = ap (option_map suc) (lower_index-below k i (omega arith))

raise_index-none : (k i : ℕ) → raise_index 0 k i ≡ i
raise_index-none zero i = omega arith
raise_index-none (suc k) zero = refl
raise_index-none (suc k) (suc i) = ap suc (raise_index-none k i)

raise_index-more : (d k i : ℕ) → raise_index (suc d) k i ≡ shift_index k (raise_index d k i)
raise_index-more d zero i = omega arith
raise_index-more d (suc k) zero = refl
raise_index-more d (suc k) (suc i) = ap suc (raise_index-more d k i)

module _ {Var : Type 0} where
  raise_head-short : (d k : ℕ) (h : Head Var) → head_reach h ≤ k → raise_head d k h ≡ h
  raise_head-short d k (constant c) l = refl
  raise_head-short d k (logical m) l = refl
  raise_head-short d k (nominal a) l = refl
  raise_head-short d k (variable y) l = refl
  raise_head-short d k (index i) l = ap index (raise_index-below d k i (omega arith))

  lower_head-short : (k : ℕ) (h : Head Var) → head_reach h ≤ k → lower_head k h ≡ Some h
  lower_head-short k (constant c) l = refl
  lower_head-short k (logical m) l = refl
  lower_head-short k (nominal a) l = refl
  lower_head-short k (variable y) l = refl
  lower_head-short k (index i) l = ap (option_map index) (lower_index-below k i (omega arith))

  raise_head-none : (k : ℕ) (h : Head Var) → raise_head 0 k h ≡ h
  raise_head-none k (constant c) = refl
  raise_head-none k (logical l) = refl
  raise_head-none k (nominal a) = refl
  raise_head-none k (variable y) = refl
  raise_head-none k (index i) = ap index (raise_index-none k i)

  raise_head-more : (d k : ℕ) (h : Head Var) → raise_head (suc d) k h ≡ shift_head k (raise_head d k h)
  raise_head-more d k (constant c) = refl
  raise_head-more d k (logical l) = refl
  raise_head-more d k (nominal a) = refl
  raise_head-more d k (variable y) = refl
  raise_head-more d k (index i) = ap index (raise_index-more d k i)

module _ {Var Hint : Type 0} where
  mutual
    pub raise-short : (t : Term Var Hint) (d k : ℕ) → reach t ≤ k → raise d k t ≡ t
    raise-short (lam A x t) d k l = ap (lam A x) (raise-short t d (suc k) (omega arith))
    raise-short (spine h ts) d k l = ap (λ g. spine g (raise_all d k ts)) (raise_head-short d k h (omega arith)) ∙ ap (spine h) (raise_all-short ts d k (omega arith))

    raise_all-short : (ts : Terms Var Hint) (d k : ℕ) → reach_of_all ts ≤ k → raise_all d k ts ≡ ts
    raise_all-short no_terms d k l = refl
    raise_all-short (term t ts) d k l = ap (λ s. term s (raise_all d k ts)) (raise-short t d k (omega arith)) ∙ ap (term t) (raise_all-short ts d k (omega arith))

  mutual
    pub substitute_by-short : (t : Term Var Hint) (r : Term Var Hint → Terms Var Hint → Term Var Hint) (u : Term Var Hint) (k : ℕ) → reach t ≤ k → substitute_by r u k t ≡ t
    substitute_by-short (lam A x t) r u k l = ap (lam A x) (substitute_by-short t r (shift zero u) (suc k) (omega arith))
    substitute_by-short (spine h ts) r u k l = ap (λ o. put r u o (substitute_all_by r u k ts)) (lower_head-short k h (omega arith)) ∙ ap (spine h) (substitute_all_by-short ts r u k (omega arith))

    substitute_all_by-short : (ts : Terms Var Hint) (r : Term Var Hint → Terms Var Hint → Term Var Hint) (u : Term Var Hint) (k : ℕ) → reach_of_all ts ≤ k → substitute_all_by r u k ts ≡ ts
    substitute_all_by-short no_terms r u k l = refl
    substitute_all_by-short (term t ts) r u k l = ap (λ s. term s (substitute_all_by r u k ts)) (substitute_by-short t r u k (omega arith)) ∙ ap (term t) (substitute_all_by-short ts r u k (omega arith))

  mutual
    pub raise-none : (t : Term Var Hint) (k : ℕ) → raise 0 k t ≡ t
    raise-none (lam A x t) k = ap (lam A x) (raise-none t (suc k))
    raise-none (spine h ts) k = ap (λ g. spine g (raise_all 0 k ts)) (raise_head-none k h) ∙ ap (spine h) (raise_all-none ts k)

    raise_all-none : (ts : Terms Var Hint) (k : ℕ) → raise_all 0 k ts ≡ ts
    raise_all-none no_terms k = refl
    raise_all-none (term t ts) k = ap (λ s. term s (raise_all 0 k ts)) (raise-none t k) ∙ ap (term t) (raise_all-none ts k)

  mutual
    pub raise-more : (t : Term Var Hint) (d k : ℕ) → raise (suc d) k t ≡ shift k (raise d k t)
    raise-more (lam A x t) d k = ap (lam A x) (raise-more t d (suc k))
    raise-more (spine h ts) d k = ap (λ g. spine g (raise_all (suc d) k ts)) (raise_head-more d k h) ∙ ap (spine (shift_head k (raise_head d k h))) (raise_all-more ts d k)

    raise_all-more : (ts : Terms Var Hint) (d k : ℕ) → raise_all (suc d) k ts ≡ shift_all k (raise_all d k ts)
    raise_all-more no_terms d k = refl
    raise_all-more (term t ts) d k = ap (λ s. term s (raise_all (suc d) k ts)) (raise-more t d k) ∙ ap (term (shift k (raise d k t))) (raise_all-more ts d k)

  -- a term without free indices is not shifted
  pub shift-short : (t : Term Var Hint) (k : ℕ) → reach t ≤ k → shift k t ≡ t
  shift-short t k h = ap (shift k) (sym (raise-none t k)) ∙ sym (raise-more t 0 k) ∙ raise-short t 1 k h
