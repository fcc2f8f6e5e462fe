-- Formulas under `exists` over variables, which become the bound names.
use Rattle.std.specs.Prelude.{zero, List, [], ◌∷◌}
use Rattle.ab_term.specs.Logical.{existential}
use Rattle.ab_term.specs.Terms.{logical, variable, lam, spine, no_terms, term, Read}
use Rattle.ab_term.specs.Abstraction.{close}
use Rattle.ab_formulas.specs.Clauses.{ClauseVariable}
use Rattle.ab_formulas.specs.CaseClauses.{in_terms}

-- `exists x, t` for the variable; the hint is its name
abbrev pub exists_over : ClauseVariable → Read → Read
exists_over v t = spine (logical (existential v.type)) (term (lam v.type v.hint (close zero (variable (in_terms v)) t)) no_terms)

-- the same for several, the first outermost
abbrev pub exists_all : List ClauseVariable → Read → Read
exists_all [] t = t
exists_all (v ∷ vs) t = exists_over v (exists_all vs t)
