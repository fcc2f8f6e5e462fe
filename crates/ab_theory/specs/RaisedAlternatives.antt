-- The parts of an alternative on the left, by the new constants among those that were chosen. Public contracts don't
-- speak of this.
use Rattle.std.specs.Prelude.{ℕ, List, [], ◌∷◌, codes}
use Rattle.ab_term.specs.Terms.{Nominal, Variable, Read}
use Rattle.ab_unifiers.specs.Replacements.{Cell}
use Rattle.ab_unifiers.specs.Alternatives.{cells_over, made_over, made_terms}

-- new variables over the constants, where there are such
abbrev pub raised_cells : List Nominal → List (Cell (List ℕ)) → List (Cell (List ℕ))
raised_cells [] olds = []
raised_cells (a ∷ bs) olds = cells_over (codes "x") (a ∷ bs) olds

-- what the goal's variables become, where so many cells were there
abbrev pub raised_to : ℕ → List Nominal → List (Variable ℕ) → List (Cell (List ℕ)) → List (Variable ℕ)
raised_to n [] ys olds = ys
raised_to n (a ∷ bs) ys olds = made_over (codes "x") n (a ∷ bs) olds

-- and the terms for them
abbrev pub raised_terms : ℕ → List Nominal → List (Cell (List ℕ)) → List Read
raised_terms n [] olds = []
raised_terms n (a ∷ bs) olds = made_terms (codes "x") n (a ∷ bs) olds
