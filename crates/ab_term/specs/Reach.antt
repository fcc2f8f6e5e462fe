-- How far up the free indices of a term reach, and a shift by several binders at once.
use Rattle.std.specs.Prelude.{ℕ, zero, suc, ◌+◌, ◌-◌, max}
use Rattle.ab_term.specs.Terms.{Head, constant, logical, nominal, variable, index, Term, lam, spine, Terms, no_terms, term}

-- d binders are put in at k
abbrev pub raise_index : ℕ → ℕ → ℕ → ℕ
raise_index d zero i = i + d
raise_index d (suc k) zero = zero
raise_index d (suc k) (suc i) = suc (raise_index d k i)

module _ {Var : Type 0} where
  abbrev pub head_reach : Head Var → ℕ
  head_reach (index i) = i + 1
  head_reach _ = 0

  abbrev pub raise_head : ℕ → ℕ → Head Var → Head Var
  raise_head d k (constant c) = constant c
  raise_head d k (logical l) = logical l
  raise_head d k (nominal a) = nominal a
  raise_head d k (variable x) = variable x
  raise_head d k (index i) = index (raise_index d k i)

module _ {Var Hint : Type 0} where
  -- each free index is below this, and it is the least such number
  abbrev mutual
    pub reach : Term Var Hint → ℕ
    reach (lam A x t) = reach t - 1
    reach (spine h ts) = max (head_reach h) (reach_of_all ts)

    pub reach_of_all : Terms Var Hint → ℕ
    reach_of_all no_terms = 0
    reach_of_all (term t ts) = max (reach t) (reach_of_all ts)

  abbrev mutual
    pub raise : ℕ → ℕ → Term Var Hint → Term Var Hint
    raise d k (lam A x t) = lam A x (raise d (suc k) t)
    raise d k (spine h ts) = spine (raise_head d k h) (raise_all d k ts)

    pub raise_all : ℕ → ℕ → Terms Var Hint → Terms Var Hint
    raise_all d k no_terms = no_terms
    raise_all d k (term t ts) = term (raise d k t) (raise_all d k ts)
