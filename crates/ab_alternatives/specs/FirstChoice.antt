-- THE FIRST CHOICE BY WHICH A CONCLUSION UNFOLDS: none before it can make the atom an instance.
use Rattle.std.specs.Prelude.{◌≡◌, ℕ, List, [], ◌∷◌, take, All, slice_get, Some}
use Rattle.ab_unifiers.specs.Replacements.{Cell}
use Rattle.ab_formulas.specs.Sequents.{Variable, Sequent, goal_names}
use Rattle.ab_theory.specs.Splits.{problem_of, NeverArises, IsOpen}
use Rattle.ab_theory.specs.Atoms.{Defined, Choice, choices_of}
use Rattle.ab_theory.specs.Unfolding.{unfolding_case}
use Rattle.ab_alternatives.specs.ChoiceMatches.{LeavesOpen}
use Rattle.ab_alternatives.specs.declared.first_choice.Found.{Found}
use Rattle.ab_alternatives.specs.declared.first_choice.Found.TheVariants.{Closed, Open, Stuck, Nothing}

module _ (cells : List (Cell (List ℕ))) (s : Sequent) (d : Defined) where
  -- the first choices, so many, can't make the atom an instance
  abbrev pub NoneBefore : ℕ → Type 0
  NoneBefore place = All (λ c. NeverArises (unfolding_case cells s d c)) (take place (choices_of (goal_names s) d))

  -- the choice stands at the place, and it is the first that may
  pub record IsFirstAt (place : ℕ) (c : Choice) : Type 0 where
    pub there : slice_get (choices_of (goal_names s) d) place ≡ Some c
    pub none_before : NoneBefore place

  -- its equations are solved, and of the variables that its clause brought these are left open, in order of age
  abbrev pub Leaves : Choice → List Variable → Type 0
  Leaves c left = LeavesOpen (problem_of (unfolding_case cells s d c)) cells left

  -- THIS IS WHAT IS FOUND
  abbrev pub Finds : Found → Type 0
  Finds (Closed place) = (c : Choice) × IsFirstAt place c × Leaves c []
  Finds (Open place name) = (c : Choice) × IsFirstAt place c × (y : Variable) × (ys : List Variable) × Leaves c (y ∷ ys) × (name ≡ y.name)
  Finds (Stuck place i) = (c : Choice) × IsFirstAt place c × IsOpen (unfolding_case cells s d c) i
  Finds Nothing = All (λ c. NeverArises (unfolding_case cells s d c)) (choices_of (goal_names s) d)
