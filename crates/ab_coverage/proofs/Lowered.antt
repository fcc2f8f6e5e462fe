-- A binder whose name doesn't stand in a term: the term is another, shifted.
use Rattle.std.proofs.Common.{◌≡◌, ℕ, suc, true, false, ◌||◌, Option, Some, None, refl, ◌∙◌, ap}
use Rattle.std.proofs.lemmas.Bool.{or_parts}
use Rattle.ab_term.specs.Terms.{Head, Term, lam, spine, Terms, no_terms, term}
use Rattle.ab_term.specs.Substitution.{shift_head, shift, shift_all, lower_head}
use Rattle.ab_term.proofs.Lowering.{lower_head-some}
use Rattle.ab_term.proofs.Shifts.{lower_head-shift_head}
use Rattle.ab_coverage.proofs.IndexedGoals.{is_binder_at, stands, stands_all, head_or, lower, lower_all}

head_lowered : (k : ℕ) (h : Head ℕ) (o : Option (Head ℕ)) → lower_head k h ≡ o → is_binder_at o ≡ false → h ≡ shift_head k (head_or h o)
head_lowered k h None e f = absurd (let bad : true ≡ false = f in cc)
head_lowered k h (Some g) e f = lower_head-some k h g e

module _ {Hint : Type 0} where
  mutual
    pub lowered : (k : ℕ) (t : Term ℕ Hint) → stands k t ≡ false → t ≡ shift k (lower k t)
    lowered k (lam A x t) e = ap (lam A x) (lowered (suc k) t e)
    lowered k (spine h ts) e =
        let parts = or_parts (is_binder_at (lower_head k h)) (stands_all k ts) e in
        ap (λ g. spine g ts) (head_lowered k h (lower_head k h) refl parts.0) ∙ ap (spine (shift_head k (head_or h (lower_head k h)))) (lowered_all k ts parts.1)

    pub lowered_all : (k : ℕ) (ts : Terms ℕ Hint) → stands_all k ts ≡ false → ts ≡ shift_all k (lower_all k ts)
    lowered_all k no_terms e = refl
    lowered_all k (term t ts) e =
        let parts = or_parts (stands k t) (stands_all k ts) e in
        ap (λ u. term u ts) (lowered k t parts.0) ∙ ap (term (shift k (lower k t))) (lowered_all k ts parts.1)

module _ {Var Hint : Type 0} where
  -- and a shifted term is such a one
  mutual
    pub stands-shift : (k : ℕ) (t : Term Var Hint) → stands k (shift k t) ≡ false
    stands-shift k (lam A x t) = stands-shift (suc k) t
    stands-shift k (spine h ts) = ap (λ o. is_binder_at o || stands_all k (shift_all k ts)) (lower_head-shift_head k h) ∙ stands_all-shift k ts

    pub stands_all-shift : (k : ℕ) (ts : Terms Var Hint) → stands_all k (shift_all k ts) ≡ false
    stands_all-shift k no_terms = refl
    stands_all-shift k (term t ts) = ap (λ b. b || stands_all k (shift_all k ts)) (stands-shift k t) ∙ stands_all-shift k ts

  mutual
    pub lower-shift : (k : ℕ) (t : Term Var Hint) → lower k (shift k t) ≡ t
    lower-shift k (lam A x t) = ap (lam A x) (lower-shift (suc k) t)
    lower-shift k (spine h ts) = ap (λ o. spine (head_or (shift_head k h) o) (lower_all k (shift_all k ts))) (lower_head-shift_head k h) ∙ ap (spine h) (lower_all-shift k ts)

    pub lower_all-shift : (k : ℕ) (ts : Terms Var Hint) → lower_all k (shift_all k ts) ≡ ts
    lower_all-shift k no_terms = refl
    lower_all-shift k (term t ts) = ap (λ u. term u (lower_all k (shift_all k ts))) (lower-shift k t) ∙ ap (term t) (lower_all-shift k ts)
