-- OUTERMOST `exists` whose name doesn't stand in the body are left out of a formula.
use Rattle.std.specs.Prelude.{ℕ, zero, suc, Bool, true, false, cond, ◌||◌, Option, Some, None}
use Rattle.ab_term.specs.Logical.{existential}
use Rattle.ab_term.specs.Terms.{Head, logical, Term, lam, spine, Terms, no_terms, term}
use Rattle.ab_term.specs.Substitution.{lower_head}

module _ {Var : Type 0} where
  -- the name of a binder, or another head, as it is called outside of the binder
  abbrev pub is_binder_at : Option (Head Var) → Bool
  is_binder_at None = true
  is_binder_at (Some h) = false

  abbrev pub head_or : Head Var → Option (Head Var) → Head Var
  head_or h None = h
  head_or h (Some g) = g

module _ {Var Hint : Type 0} where
  -- the name of the binder at k stands in the term
  abbrev mutual
    pub stands : ℕ → Term Var Hint → Bool
    stands k (lam A x t) = stands (suc k) t
    stands k (spine h ts) = is_binder_at (lower_head k h) || stands_all k ts

    pub stands_all : ℕ → Terms Var Hint → Bool
    stands_all k no_terms = false
    stands_all k (term t ts) = stands k t || stands_all k ts

  -- the term outside of the binder at k, whose name doesn't stand in it
  abbrev mutual
    pub lower : ℕ → Term Var Hint → Term Var Hint
    lower k (lam A x t) = lam A x (lower (suc k) t)
    lower k (spine h ts) = spine (head_or h (lower_head k h)) (lower_all k ts)

    pub lower_all : ℕ → Terms Var Hint → Terms Var Hint
    lower_all k no_terms = no_terms
    lower_all k (term t ts) = term (lower k t) (lower_all k ts)

  -- WITHOUT THE OUTERMOST `exists` whose name doesn't stand in the body
  abbrev pub without_vacuous : Term Var Hint → Term Var Hint
  without_vacuous (spine (logical (existential A)) (term (lam B x F) no_terms)) = cond (stands zero F) (spine (logical (existential A)) (term (lam B x (without_vacuous F)) no_terms)) (lower zero (without_vacuous F))
  without_vacuous F = F
