-- WHAT COMES OF USING A FORMULA in a goal: the first choice of constants whose equations aren't apart decides.
use Rattle.std.specs.Prelude.{◌≡◌, ℕ, List, [], ◌∷◌, ◌++◌, filter, All, Option, Some, None, codes}
use Rattle.ab_term.specs.Terms.{Nominal, Read}
use Rattle.ab_term.specs.Variables.{Substitution, variables, image}
use Rattle.ab_term.specs.Sameness.{same_number}
use Rattle.ab_unifiers.specs.Replacements.{Cell, holds}
use Rattle.ab_unifiers.specs.Unification.{unified, Solves}
use Rattle.ab_formulas.specs.Sequents.{Variable, Sequent, in_terms}
use Rattle.ab_theory.specs.Equations.{AreCells, made}
use Rattle.ab_theory.specs.Splits.{Case, problem_of, NeverArises, IsOpen}
use Rattle.ab_theory.specs.Pieces.{Part}
use Rattle.ab_theory.specs.Uses.{Aim, choices_for, use_case, left_side, right_side}

-- what a formula is used for in a goal: all that decides what comes of it
pub record Using : Type 0 where
  pub goal : Sequent
  pub parts : List Part
  pub aim : Aim
  pub formula : Read

abbrev pub case_by : List (Cell (List ℕ)) → Using → List Nominal → Case
case_by cells u names = use_case cells u.goal u.parts u.aim u.formula names

-- the choice is there, and none before it can be
abbrev pub IsFirst : List (Cell (List ℕ)) → Using → List Nominal → Type 0
IsFirst cells u names =
    (before after : List (List Nominal)) × (choices_for u.goal u.parts u.formula ≡ before ++ names ∷ after) × All (λ b. NeverArises (case_by cells u b)) before

-- the variables that stand in the formula
abbrev pub standing_in : Read → List Variable → List Variable
standing_in K ys = filter (λ y. holds (variables K) (in_terms y)) ys

-- ITS EQUATIONS ARE SOLVED: this is left then, in which these new variables stand that are left open, in order of age
pub record IsSolvedBy (cells : List (Cell (List ℕ))) (u : Using) (names : List Nominal) (K : Read) (ys : List Variable) : Type 0 where
  pub more : List (Cell (List ℕ))
  pub answer : Substitution ℕ (List ℕ)
  pub solved : Solves (codes "x") (problem_of (case_by cells u names)) (unified more answer)
  pub left : K ≡ image same_number answer (case_by cells u names).goal.conclusion
  pub left_open : ys ≡ standing_in K (made cells more answer)

-- THE FORMULA IS USED, and this is left: no new variable stands in it
abbrev pub IsUsedFor : Using → Read → Type 0
IsUsedFor u K = (cells : List (Cell (List ℕ))) × AreCells cells u.goal × (names : List Nominal) × IsFirst cells u names × IsSolvedBy cells u names K []

-- no choice makes the sides equal
abbrev pub NothingMatches : Using → Type 0
NothingMatches u = (cells : List (Cell (List ℕ))) × AreCells cells u.goal × All (λ b. NeverArises (case_by cells u b)) (choices_for u.goal u.parts u.formula)

-- the first that might has an equation outside the patterns, of this number from 0
abbrev pub IsOutsideAt : Using → ℕ → Type 0
IsOutsideAt u i = (cells : List (Cell (List ℕ))) × AreCells cells u.goal × (names : List Nominal) × IsFirst cells u names × IsOpen (case_by cells u names) i

-- or it leaves variables open in what is left, of which the oldest has this hint
abbrev pub IsLeftOpen : Using → List ℕ → Type 0
IsLeftOpen u name =
    (cells : List (Cell (List ℕ))) × AreCells cells u.goal × (names : List Nominal) × IsFirst cells u names
    × (K : Read) × (y : Variable) × (ys : List Variable) × IsSolvedBy cells u names K (y ∷ ys) × (name ≡ y.name)

-- WHAT IS LEFT, taken apart: the antecedents for which nothing was given, in order, and the result behind them
abbrev pub awaited : List (Option Read) → Read → List Read
awaited [] K = []
awaited (None ∷ hs) K = left_side K ∷ awaited hs (right_side K)
awaited (Some G ∷ hs) K = awaited hs K

abbrev pub result_in : List (Option Read) → Read → Read
result_in [] K = K
result_in (None ∷ hs) K = result_in hs (right_side K)
result_in (Some G ∷ hs) K = result_in hs K
