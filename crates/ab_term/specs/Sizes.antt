-- How large a term is: how many abstractions and heads stand in it.
use Rattle.std.specs.Prelude.{ℕ, suc, ◌+◌}
use Rattle.ab_term.specs.Terms.{Term, lam, spine, Terms, no_terms, term}

module _ {Var Hint : Type 0} where
  abbrev mutual
    pub size : Term Var Hint → ℕ
    size (lam A x t) = suc (size t)
    size (spine h ts) = suc (sizes ts)

    pub sizes : Terms Var Hint → ℕ
    sizes no_terms = 0
    sizes (term t ts) = size t + sizes ts
