-- WHAT A THEOREM ASSUMES: theorems that stand on admitted goals, itself among them where its own derivation admits one.
use Rattle.std.specs.Prelude.{ℕ, zero, suc, ◌==◌, List, [], ◌∷◌, ◌++◌, length, if◌then◌else◌}
use Rattle.std.specs.List.{list_any}
use Rattle.ab_formulas.specs.Declarations.{Declarations, assumed_in, theorems_in}
use Rattle.ab_theory.specs.Derivations.{Debt, theorem_taken, goal_admitted, Derivation, debts}

-- the places that a debt makes the next theorem assume: those that the theorem assumes which is taken, or its own
abbrev pub places_of : Declarations → Debt → List ℕ
places_of D (theorem_taken n) = assumed_in D n
places_of D goal_admitted = length (theorems_in D) ∷ []

abbrev pub all_places : Declarations → List Debt → List ℕ
all_places D [] = []
all_places D (t ∷ ts) = places_of D t ++ all_places D ts

-- the numbers below n that the list has, in growing order
abbrev pub in_order : ℕ → List ℕ → List ℕ
in_order zero js = []
in_order (suc n) js = in_order n js ++ (if list_any (λ j. j == n) js then n ∷ [] else [])

-- places of theorems up to that of the next one, in growing order
abbrev pub places_in_order : Declarations → List ℕ → List ℕ
places_in_order D js = in_order (suc (length (theorems_in D))) js

-- THE PLACES THAT THE NEXT THEOREM ASSUMES, in growing order, where this is its derivation
abbrev pub assumed_by : Declarations → Derivation → List ℕ
assumed_by D d = places_in_order D (all_places D (debts d))

-- the places of the list and those that the debts bring, in growing order
abbrev pub with_debts : Declarations → List Debt → List ℕ → List ℕ
with_debts D ts js = places_in_order D (js ++ all_places D ts)
