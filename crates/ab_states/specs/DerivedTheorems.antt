-- THEOREMS ARE DERIVED: each from what was declared before it, and so from earlier theorems alone. One is proved where no goal was
-- admitted for it, nor for any theorem that it rests on.
use Rattle.std.specs.Prelude.{◌≡◌, ◌<◌, ℕ, List, ◌∷◌, ◌++◌, Contains, None, length}
use Rattle.ab_term.specs.Terms.{Read}
use Rattle.ab_formulas.specs.Declarations.{Declarations, a_theorem, theorem_in, theorems_in}
use Rattle.ab_theory.specs.Derivations.{Derivation, IsTreeOf, IsDerivation, debts, theorem_taken}
use Rattle.ab_theory.specs.Assumptions.{assumed_by}

-- the theorem of this place, from 0, has this derivation, perhaps with gaps, from the declarations that stand before it; and it
-- assumes just what the derivation makes it assume
pub record IsDerived (D : Declarations) (place : ℕ) (d : Derivation) : Type 0 where
  pub name : List ℕ
  pub formula : Read
  pub assumed : List ℕ
  pub before : Declarations
  pub behind : Declarations
  pub declared : D ≡ before ++ a_theorem name formula assumed ∷ behind
  pub place_is : length (theorems_in before) ≡ place
  pub derives : IsTreeOf before formula d
  pub assumes : assumed ≡ assumed_by before d

-- EACH THEOREM has such a derivation
abbrev pub AreDerived : Declarations → Type 0
AreDerived D = (place : ℕ) → place < length (theorems_in D) → (d : Derivation) × IsDerived D place d

-- THE THEOREM OF THIS NAME, which is the first that has it, IS PROVED: it has a derivation without gaps from what was declared before
-- it, and each theorem that this takes is proved
pub data IsProved : Declarations → List ℕ → Type 0 where
  proved : {before : Declarations} (behind : Declarations) (name : List ℕ) (formula : Read) (assumed : List ℕ) (d : Derivation) → theorem_in before name ≡ None
      → IsDerivation before formula d → ((taken : List ℕ) → Contains (debts d) (theorem_taken taken) → IsProved before taken)
      → IsProved (before ++ a_theorem name formula assumed ∷ behind) name
