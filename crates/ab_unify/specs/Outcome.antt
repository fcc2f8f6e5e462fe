-- What the code says of a rule and an equation, and what it has done.
use Rattle.std.specs.Prelude.{◌≡◌, ℕ, List, map, All, Option, Some, None, codes}
use Rattle.ab_term.specs.Types.{Ty}
use Rattle.ab_term.specs.Terms.{Variable, Term}
use Rattle.ab_norm.specs.ab_types.specs.Entries.{Table}
use Rattle.ab_norm.specs.ab_store.specs.declared.node.CellId.{CellId}
use Rattle.ab_norm.specs.ab_store.specs.Trees.{Contents}
use Rattle.ab_norm.specs.ab_store.specs.Reading.{reading}
use Rattle.ab_norm.specs.ab_store.specs.Naming.{IsTerm}
use Rattle.ab_patterns.specs.declared.equation.Numbered.{Numbered}
use Rattle.ab_patterns.specs.ab_unifiers.specs.Replacements.{Cell, Change}
use Rattle.ab_patterns.specs.ab_unifiers.specs.Unification as solve
use Rattle.ab_patterns.specs.ab_unifiers.specs.Unification.{Result, clash, parts, replaced, unchanged, or_else, pattern_and_rigid, one_variable, two_variables}
use Rattle.ab_unify.specs.declared.flexible_rules.Step.{Step}
use Rattle.ab_unify.specs.declared.flexible_rules.Step.TheVariants.{NoRule, Clash, Parts, Replaced}
use Rattle.ab_unify.specs.Problem.{cells_read, variables_read}
use Rattle.ab_unify.specs.StoreChanges.{Changed}

-- an equation, its sides with the bindings put in
abbrev pub equation_read : Table → Contents → Numbered → solve.Equation (List ℕ)
equation_read types store e = record { place = e.place; left = reading types store e.left; right = reading types store e.right }

-- both sides are terms of one type
abbrev pub IsTypedEquation : Table → Contents → Numbered → Type 0
IsTypedEquation types store e = (G : List Ty) × (A : Ty) × IsTerm types store G e.left A × IsTerm types store G e.right A

-- nothing is replaced
abbrev pub still : Table → Contents → List CellId → Change (List ℕ)
still types store flexible = unchanged (codes "x") (cells_read types store) (variables_read types store flexible)

-- what the answer says of the rule's result, where the second change is what was done, and the first would be nothing
abbrev pub Says : Table → Contents → Step → Change (List ℕ) → Change (List ℕ) → Option (Result (List ℕ)) → Type 0
Says types store NoRule none c o = (o ≡ None) × (c ≡ none)
Says types store Clash none c o = (o ≡ Some clash) × (c ≡ none)
Says types store (Parts es) none c o = (o ≡ Some (parts (map (equation_read types store) es.items))) × (c ≡ none) × All (IsTypedEquation types store) es.items
Says types store Replaced none c o = o ≡ Some (replaced c)

-- THE RULE'S RESULT IS TOLD, AND CARRIED OUT
pub record Tells (types : Table) (store : Contents) (begun : List CellId) (more : Table) (now : Contents) (flexible : List CellId) (r : Step) (o : Option (Result (List ℕ))) : Type 0 where
  pub change : Change (List ℕ)
  pub changed : Changed types store begun change more now flexible
  pub says : Says more now r (still types store begun) change o

-- the last three rules, in order: those at flexible terms
abbrev pub last_rules : List (Cell (List ℕ)) → List (Variable ℕ) → Term ℕ (List ℕ) → Term ℕ (List ℕ) → Option (Result (List ℕ))
last_rules cells ys t u =
    or_else (or_else (pattern_and_rigid (codes "x") cells ys t u) (pattern_and_rigid (codes "x") cells ys u t))
    (or_else (one_variable (codes "x") cells ys t u)
    (or_else (two_variables (codes "x") cells ys t u) (two_variables (codes "x") cells ys u t)))
