-- A binder is put in under a name that doesn't stand in the term.
use Rattle.std.proofs.Common.{◌≡◌, ℕ, suc, ◌≤◌, true, cond, refl, ap, ◌∙◌, arith}
use Rattle.std.specs.Cmp.{unsigned_Decides}
use Rattle.std.proofs.lemmas.Bool.{false_from_ne_true}
use Rattle.ab_term.specs.Terms.{Head, constant, logical, nominal, variable, index, Term, lam, spine, Terms, no_terms, term}
use Rattle.ab_term.specs.Substitution.{shift, shift_all, shift_head, shift_index}
use Rattle.ab_term.specs.Reach.{reach, reach_of_all, head_reach}
use Rattle.ab_term.specs.Abstraction.{close, close_all, close_head}
use Rattle.ab_term.specs.Sameness.{same_head}

close_head-unused : (k n : ℕ) (g : Head ℕ) → head_reach g ≤ n → close_head k (index n) g ≡ shift_head k g
close_head-unused k n (constant c) r = refl
close_head-unused k n (logical l) r = refl
close_head-unused k n (nominal a) r = refl
close_head-unused k n (variable x) r = refl
close_head-unused k n (index i) r = ap (λ b. cond b (index k) (index (shift_index k i))) (false_from_ne_true (same_head (index i) (index n)) other)
  where
    other : same_head (index i) (index n) ≡ true → ⊥
    other e = let same : i ≡ n = (unsigned_Decides i n).0 e in absurd (omega (arith, r, same))

module _ {Hint : Type 0} where
  mutual
    -- a name above all free names of the term
    pub close-unused : (k n : ℕ) (t : Term ℕ Hint) → reach t ≤ n → close k (index n) t ≡ shift k t
    close-unused k n (lam A x t) r = ap (lam A x) (close-unused (suc k) (suc n) t (omega (arith, r)))
    close-unused k n (spine g ts) r =
        ap (λ h. spine h (close_all k (index n) ts)) (close_head-unused k n g (omega (arith, r)))
        ∙ ap (spine (shift_head k g)) (close_all-unused k n ts (omega (arith, r)))

    close_all-unused : (k n : ℕ) (ts : Terms ℕ Hint) → reach_of_all ts ≤ n → close_all k (index n) ts ≡ shift_all k ts
    close_all-unused k n no_terms r = refl
    close_all-unused k n (term t ts) r =
        ap (λ s. term s (close_all k (index n) ts)) (close-unused k n t (omega (arith, r))) ∙ ap (term (shift k t)) (close_all-unused k n ts (omega (arith, r)))
