-- ONE EQUATION OF ONE GOAL, read over two lists of numbers: with names for the variables' numbers both goals are the
-- same, and so are the two terms that are equated.
use Rattle.std.specs.Prelude.{◌≡◌, ℕ, List, map, bytes_eq, if◌then◌else◌, Some}
use Rattle.ab_term.specs.Terms.{Read}
use Rattle.ab_term.specs.Variables.{Substitution, image}
use Rattle.ab_term.specs.Sameness.{same_number}
use Rattle.ab_unifiers.specs.Replacements.{Cell}
use Rattle.ab_formulas.specs.Declarations.{Declarations, HaveDefinitions}
use Rattle.ab_formulas.specs.Programs.{HavePrograms}
use Rattle.ab_formulas.specs.Sequents.{Variable, Hypothesis, Sequent, IsSequent, HoldsOnly}
use Rattle.ab_formulas.specs.NamedGoals.{with_names, variable_named, named}
use Rattle.ab_theory.specs.Splits.{NeverArises, IsOpen}
use Rattle.ab_theory.specs.Subjects.{Subject, subject_of, Way}
use Rattle.ab_effects.specs.Unfoldings.{IsMatched}

-- the term of the first goal and that of the second
pub record IsSameTerm (s u : Sequent) (t v : Read) : Type 0 where
  pub first : HoldsOnly s.variables t
  pub second : HoldsOnly u.variables v
  pub same : with_names s.variables t ≡ with_names u.variables v

pub record IsSameEquation (D : Declarations) (s u : Sequent) (t r v w : Read) : Type 0 where
  pub first : IsSequent D s
  pub second : IsSequent D u
  pub goals : named s ≡ named u
  pub left : IsSameTerm s u t v
  pub right : IsSameTerm s u r w

-- ONE SUBJECT of one goal, read over two lists of numbers: that of two formulas that are the same with names for the variables'
-- numbers, as the goals are.
pub record IsSameSubject (D : Declarations) (s u : Sequent) (x y : Subject) : Type 0 where
  pub first : IsSequent D s
  pub second : IsSequent D u
  pub goals : named s ≡ named u
  pub formula : Read
  pub other : Read
  pub formulas : IsSameTerm s u formula other
  pub subject : subject_of D formula ≡ Some x
  pub also : subject_of D other ≡ Some y
  pub definitions : HaveDefinitions D
  pub programs : HavePrograms D

-- what is left of a goal, over the same variables, read over two lists of numbers
pub record IsSameRest (D : Declarations) (s u rest left : Sequent) : Type 0 where
  pub first : IsSequent D rest
  pub second : IsSequent D left
  pub goals : named rest ≡ named left
  pub first_over : rest.variables ≡ s.variables
  pub second_over : left.variables ≡ u.variables

-- the hypotheses of the first name have the second

abbrev pub relabelled_hypothesis : List ℕ → List ℕ → Hypothesis → Hypothesis
relabelled_hypothesis x y h = record { name = if bytes_eq h.name x then y else h.name; formula = h.formula }

abbrev pub relabelled : List ℕ → List ℕ → Sequent → Sequent
relabelled x y s = record {
  variables = s.variables;
  hypotheses = map (relabelled_hypothesis x y) s.hypotheses;
  conclusion = s.conclusion;
  counter = s.counter;
}

-- ONE WAY TO UNFOLD the conclusion of one goal, read over two lists of numbers, where these are all variables that were ever made: the
-- second never arises, or is outside the patterns at an equation, where the first is so; where the first is solved the second is, the
-- variables that are left open have the same names, and the body is the same with names for numbers.
pub record HasItsOutcome (s u : Sequent) (cells others : List (Cell (List ℕ))) (w v : Way) : Type 0 where
  pub never : NeverArises (w.case cells) → NeverArises (v.case others)
  pub outside : (i : ℕ) → IsOpen (w.case cells) i → IsOpen (v.case others) i
  pub matched : (more : List (Cell (List ℕ))) (p : Substitution ℕ (List ℕ)) (left : List Variable) → IsMatched cells w more p left
      → (most : List (Cell (List ℕ))) × (q : Substitution ℕ (List ℕ)) × (right : List Variable) × IsMatched others v most q right × (map variable_named left ≡ map variable_named right)
      × (with_names s.variables (image same_number p (w.case cells).goal.conclusion) ≡ with_names u.variables (image same_number q (v.case others).goal.conclusion))
