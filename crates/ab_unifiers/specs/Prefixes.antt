-- A clause as it is kept: its variables have the numbers of cells, and its head stands under a prefix of `nabla`
-- binders. What clause it is.
use Rattle.std.specs.Prelude.{◌≡◌, ℕ, List, [], ◌∷◌, map, length}
use Rattle.ab_term.specs.Types.{prop}
use Rattle.ab_term.specs.Logical.{nabla}
use Rattle.ab_term.specs.Terms.{Variable, constant, logical, variable, Term, lam, spine, Terms, no_terms, term}
use Rattle.ab_term.specs.Typing.{Signature, HasType}
use Rattle.ab_term.specs.Substitution.{instance}
use Rattle.ab_term.specs.Expansion.{expansion}
use Rattle.ab_term.specs.Names.{support}
use Rattle.ab_term.specs.Variables.{variables, image}
use Rattle.ab_term.specs.Sameness.{same_number}
use Rattle.ab_unifiers.specs.Replacements.{Cell}
use Rattle.ab_unifiers.specs.Unifiers.{AreDifferent}
use Rattle.ab_unifiers.specs.Clauses.{Clause, numbered, put_together, Within}
use Rattle.ab_unifiers.specs.Alternatives.{cells_of}

module _ {Hint : Type 0} where
  -- the binders of the prefix, the outermost first
  abbrev pub prefix : Term ℕ Hint → List (Cell Hint)
  prefix (spine (logical (nabla A)) (term (lam B x t) no_terms)) = record { hint = x; type = A } ∷ prefix t
  prefix _ = []

  -- under the prefix stands a constant with its arguments
  abbrev pub IsHead : Term ℕ Hint → Type 0
  IsHead (spine (constant c) ts) = Unit {0}
  IsHead (spine (logical (nabla A)) (term (lam B x t) no_terms)) = IsHead t
  IsHead _ = ⊥

  -- a quantified formula, with these terms for its outermost bound names
  abbrev pub opened : Term ℕ Hint → List (Term ℕ Hint) → Term ℕ Hint
  opened t [] = t
  opened (spine h (term f no_terms)) (u ∷ us) = opened (instance f u) us
  opened t (u ∷ us) = t

  abbrev pub predicate_of : Term ℕ Hint → List ℕ
  predicate_of (spine (constant c) ts) = c
  predicate_of _ = []

  abbrev pub arguments_of : Term ℕ Hint → Terms ℕ Hint
  arguments_of (spine h ts) = ts
  arguments_of (lam A x t) = no_terms

  -- variables as terms
  abbrev pub own_terms : Hint → List (Variable ℕ) → List (Term ℕ Hint)
  own_terms x ys = map (λ y. expansion x y.type (variable y)) ys

  -- THE CLAUSE that is kept with these variables, this head and this body: the variables are numbered from 0 on, and
  -- the names of the prefix behind them
  abbrev pub clause_of : Hint → List (Cell Hint) → List (Variable ℕ) → Term ℕ Hint → Term ℕ Hint → Clause Hint
  clause_of x cells ys head body =
      let own = cells_of x cells ys in
      let to_own = put_together ys (own_terms x (numbered 0 own)) in
      let names = prefix head in
      let atom = opened (image same_number to_own head) (own_terms x (numbered (length own) names)) in
      record { variables = own; names = names; predicate = predicate_of atom; arguments = arguments_of atom; body = image same_number to_own body }

-- What is kept: different variables; head and body are formulas over them, without nominal constants.
pub record IsKept (sg : Signature) {Hint : Type 0} (ys : List (Variable ℕ)) (h b : Term ℕ Hint) : Type 0 where
  pub different : AreDifferent ys
  pub is_head : IsHead h
  pub head : HasType sg [] h prop
  pub body : HasType sg [] b prop
  pub head_without_constants : support h ≡ []
  pub body_without_constants : support b ≡ []
  pub head_variables : Within (variables h) ys
  pub body_variables : Within (variables b) ys
