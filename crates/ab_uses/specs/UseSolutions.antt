-- How a use is solved, on shared terms: what must be equal, what is awaited, and what stands in it. Public contracts don't
-- speak of this.
use Rattle.std.specs.Prelude.{ℕ, List, [], ◌∷◌, ◌++◌, length, map, Bool, ◌&&◌, is_none, Option, Some, None}
use Rattle.std.specs.List.{list_any}
use Rattle.std.specs.Option.{option_map}
use Rattle.ab_term.specs.Types.{prop}
use Rattle.ab_norm.specs.ab_types.specs.Entries.{Table}
use Rattle.ab_norm.specs.ab_store.specs.declared.node.TermId.{TermId}
use Rattle.ab_norm.specs.ab_store.specs.declared.node.CellId.{CellId}
use Rattle.ab_term.specs.Terms.{Read}
use Rattle.ab_norm.specs.ab_store.specs.Trees.{Contents, tree_of}
use Rattle.ab_norm.specs.ab_store.specs.Reading.{binding_of, cell_variable}
use Rattle.ab_norm.specs.ab_store.specs.Naming.{IsTerm}
use Rattle.ab_unifiers.specs.Replacements.{occurs}
use Rattle.ab_unifiers.specs.Unification.{Equation}
use Rattle.ab_formulas.specs.Marks.{erased}
use Rattle.ab_theory.specs.Uses.{Aim, implied, equations}
use Rattle.ab_uses.specs.declared.aim.Aim.{Aim as KeptAim}

-- those of the second for which the first has nothing, one against one
abbrev pub missing : {A B : Type 0} → List (Option A) → List B → List B
missing [] xs = []
missing (o ∷ os) [] = []
missing (None ∷ os) (x ∷ xs) = x ∷ missing os xs
missing (Some y ∷ os) (x ∷ xs) = missing os xs

-- the formula and what is given for it, where something is, without marks
abbrev pub equation_at : ℕ → Option Read → Read → List (Equation (List ℕ))
equation_at p None F = []
equation_at p (Some G) F = record { place = p; left = erased F; right = erased G } ∷ []

-- what must be equal: antecedents and what is given for them, and the result and what it is to be
abbrev pub all_equations : Aim → List Read → Read → List (Equation (List ℕ))
all_equations aim As R =
    let es = equations 0 aim.hypotheses As in
    es ++ equation_at (length es) aim.conclusion R

-- a formula behind these antecedents
abbrev pub behind_all : List Read → Read → Read
behind_all [] R = R
behind_all (A ∷ As) R = implied A (behind_all As R)

module _ (types : Table) (store : Contents) where
  abbrev pub IsFormulaTerm : TermId → Type 0
  IsFormulaTerm t = IsTerm types store [] t prop

  abbrev pub IsFormulaTermIfAny : Option TermId → Type 0
  IsFormulaTermIfAny None = Unit {0}
  IsFormulaTermIfAny (Some t) = IsFormulaTerm t

  abbrev pub aim_in : KeptAim → Aim
  aim_in a = record { hypotheses = map (option_map (tree_of types store)) a.hypotheses.items; conclusion = option_map (tree_of types store) a.conclusion }

  -- the cell stands in one of the terms
  abbrev pub stands_in : List TermId → CellId → Bool
  stands_in ts c = list_any (λ t. occurs (cell_variable types store c) (tree_of types store t)) ts

  -- and is bound to nothing
  abbrev pub is_open : List TermId → CellId → Bool
  is_open ts c = is_none (binding_of store c) && stands_in ts c
