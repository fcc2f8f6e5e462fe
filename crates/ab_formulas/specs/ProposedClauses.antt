-- What is asked of a clause before its head is looked at.
use Rattle.std.specs.Prelude.{◌≡◌, [], map}
use Rattle.ab_term.specs.Types.{prop}
use Rattle.ab_term.specs.Typing.{Signature, HasType}
use Rattle.ab_term.specs.Names.{support}
use Rattle.ab_term.specs.Variables.{variables}
use Rattle.ab_formulas.specs.Formulas.{IsFormula}
use Rattle.ab_unifiers.specs.Unifiers.{AreDifferent}
use Rattle.ab_unifiers.specs.Clauses.{Within}
use Rattle.ab_formulas.specs.Clauses.{Clause}
use Rattle.ab_formulas.specs.CaseClauses.{in_terms}

-- THE CLAUSE MAY BE PROPOSED: its variables are different, its head is of type `prop` and its body is a formula, both over
-- the variables and without nominal constants
pub record IsProposed (sg : Signature) (c : Clause) : Type 0 where
  pub different : AreDifferent (map in_terms c.variables)
  pub head : HasType sg [] c.head prop
  pub body : IsFormula sg c.body
  pub head_without_constants : support c.head ≡ []
  pub body_without_constants : support c.body ≡ []
  pub head_variables : Within (variables c.head) (map in_terms c.variables)
  pub body_variables : Within (variables c.body) (map in_terms c.variables)
