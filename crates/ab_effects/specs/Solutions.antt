-- What comes of solving an equation of a goal, whatever the numbers of the goal's variables.
use Rattle.std.specs.Prelude.{◌≡◌, ◌⊎◌, ℕ, List, [], ◌∷◌}
use Rattle.ab_term.specs.Terms.{Read}
use Rattle.ab_unifiers.specs.Replacements.{Cell}
use Rattle.ab_formulas.specs.Declarations.{Declarations}
use Rattle.ab_formulas.specs.NewNames.{IsNamedFor}
use Rattle.ab_formulas.specs.Sequents.{Sequent}
use Rattle.ab_theory.specs.Equations.{AreCells, Becomes, AreApart, AreStuck}

-- IT IS SOLVED, with these goals in the goal's place: the goal under the answer, where the two sides are made equal, and none
-- where nothing makes them equal
abbrev pub IsSolved : Declarations → Sequent → Read → Read → List Sequent → Type 0
IsSolved D s t u gs =
    (cells : List (Cell (List ℕ))) × AreCells cells s
    × (((g : Sequent) × Becomes (IsNamedFor D) cells s t u g × (gs ≡ g ∷ [])) ⊎ (AreApart cells s t u × (gs ≡ [])))

-- IT IS OUTSIDE THE PATTERNS
abbrev pub IsOutside : Sequent → Read → Read → Type 0
IsOutside s t u = (cells : List (Cell (List ℕ))) × AreCells cells s × AreStuck cells s t u
