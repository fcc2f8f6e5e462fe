-- Which numbers make a stem a free name. Public contracts don't speak of this.
use Rattle.std.specs.Prelude.{◌≡◌, ℕ, ◌<◌, ◌≤◌, ◌^◌, List, [], ◌∷◌, ◌++◌, map}
use Rattle.std.specs.Fmt.{decimal}
use Rattle.ab_formulas.specs.Declarations.{Declarations, constant_names}
use Rattle.ab_formulas.specs.Sequents.{Sequent, Variable}
use Rattle.ab_formulas.specs.NewNames.{IsFreeName, IsNominalName, IsDigit}

abbrev pub variable_names : Sequent → List (List ℕ)
variable_names s = map (λ (x : Variable). x.name) s.variables

abbrev pub taken_names : Declarations → Sequent → List (List ℕ)
taken_names D s = variable_names s ++ constant_names D

-- the stem with the number is free
abbrev pub IsNumberFree : Declarations → Sequent → List ℕ → ℕ → Type 0
IsNumberFree D s stem n = (1 ≤ n) × IsFreeName D s (stem ++ decimal n)

-- no digit stands at the end
abbrev pub EndsInNoDigit : List ℕ → Type 0
EndsInNoDigit stem = (front : List ℕ) (b : ℕ) → stem ≡ front ++ b ∷ [] → ¬ IsDigit b

-- the first free number is not below this one, and from it on no number makes the name of a nominal constant
pub record MayBeFrom (D : Declarations) (s : Sequent) (stem : List ℕ) (first : ℕ) : Type 0 where
  pub positive : 1 ≤ first
  pub below : (m : ℕ) → m < first → IsNumberFree D s stem m → ⊥
  pub no_nominal : (m : ℕ) → first ≤ m → m < 2 ^ 100 → ¬ IsNominalName (stem ++ decimal m)
