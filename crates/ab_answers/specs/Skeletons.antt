-- THE SKELETON of a formula: its connectives and quantifiers, outside atoms, equations and judgements. Opening the formula makes
-- no more variables than it has of these.
use Rattle.std.specs.Prelude.{ℕ, zero, suc, ◌+◌, List}
use Rattle.ab_term.specs.Terms.{lam, spine, Terms, no_terms, term, Read}
use Rattle.ab_formulas.specs.Formulas.{Place, a_formula, a_scope, a_marked, any, places_of}

-- with the outermost one, where its parts are formulas or what a quantifier is given
abbrev pub counted : Place → ℕ → ℕ
counted a_formula n = suc n
counted a_scope n = suc n
counted a_marked n = zero
counted any n = zero

abbrev mutual
  -- how many there are
  pub skeleton : Read → ℕ
  skeleton (lam A x t) = skeleton t
  skeleton (spine h ts) = counted (places_of h) (skeletons ts)

  pub skeletons : Terms ℕ (List ℕ) → ℕ
  skeletons no_terms = zero
  skeletons (term t ts) = skeleton t + skeletons ts
