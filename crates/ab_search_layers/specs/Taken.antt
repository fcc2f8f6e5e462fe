-- HOW A SEARCH GOES ON FROM A GOAL, told of its conclusion as it is in the end.
use Rattle.std.specs.Prelude.{ℕ, List, Bool}
use Rattle.ab_term.specs.Terms.{Nominal, Read}
use Rattle.ab_unifiers.specs.Clauses.{Clause}

pub data Taking : Type 0 where
  -- it is `true`
  truth : Taking
  -- by the hypothesis of this number
  hypothesis : ℕ → Taking
  -- its sides are the same
  equality : Taking
  -- both parts of a conjunction, the right one first if this is so
  both : Bool → Taking
  -- one part of a disjunction
  left : Taking
  right : Taking
  -- what is given is assumed
  assuming : Taking
  -- this constant for the name of a `nabla`
  constant : Nominal → Taking
  -- this term for the name of an `exists`
  term : Read → Taking
  -- a variable of this number over these constants for the name of a `forall`
  variable : ℕ → List Nominal → Taking
  -- a layer of a judgement is opened
  layer : Taking
  -- a clause of a definition, with these constants for its names and these terms for its variables
  clause : Clause (List ℕ) → List Nominal → List Read → Taking
  -- the rule of a judgement of this number, with these terms for the names that were open; and of each name whether it was closed by an `exists`
  rule : ℕ → List Read → List Bool → Taking
