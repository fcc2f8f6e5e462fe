-- What the answers of unification say, and what they leave of the store.
use Rattle.std.specs.Prelude.{◌≡◌, ◌<◌, ◌↔◌, ◌⊎◌, ℕ, false, List, AllPairs, Contains, Result, Ok, Err, codes}
use Rattle.ab_term.specs.Types.{Ty}
use Rattle.ab_term.specs.Variables.{Substitution}
use Rattle.ab_norm.specs.ab_types.specs.Entries.{Table}
use Rattle.ab_norm.specs.ab_store.specs.declared.node.CellId.{CellId}
use Rattle.ab_norm.specs.ab_store.specs.declared.node.Equation.{Equation}
use Rattle.ab_norm.specs.ab_store.specs.Trees.{Contents, HoldsCell}
use Rattle.ab_norm.specs.ab_store.specs.Reading.{cell_variable}
use Rattle.ab_norm.specs.ab_store.specs.Bindings.{IsUnbound}
use Rattle.ab_norm.specs.ab_store.specs.Naming.{IsTerm}
use Rattle.ab_patterns.specs.ab_unifiers.specs.Replacements.{Cell, holds}
use Rattle.ab_patterns.specs.ab_unifiers.specs.Unifiers.{keys}
use Rattle.ab_patterns.specs.ab_unifiers.specs.Unification.{State, unified, Solves}
use Rattle.ab_unify.specs.declared.answers.Solved.{Solved}
use Rattle.ab_unify.specs.declared.answers.Solved.TheVariants.{Unified, Apart, Stuck}

-- both sides are terms of one type, over the same bound names
abbrev pub IsTypedPair : Table → Contents → Equation → Type 0
IsTypedPair types store e = (G : List Ty) × (A : Ty) × IsTerm types store G e.left A × IsTerm types store G e.right A

-- some substitution answers the problem
abbrev pub HasSolution : State (List ℕ) → Type 0
HasSolution p = (more : List (Cell (List ℕ))) × (s : Substitution ℕ (List ℕ)) × Solves (codes "x") p (unified more s)

abbrev pub IsUnified : Solved → Type 0
IsUnified (Unified made) = Unit {0}
IsUnified Apart = ⊥
IsUnified (Stuck place) = ⊥

module _ {E : Type 0} where
  -- what holds of the cells that were made, where the answer is Unified
  abbrev pub IfUnified : Result Solved E → (List CellId → Type 0) → Type 0
  IfUnified (Ok (Unified made)) P = P made
  IfUnified (Ok Apart) P = Unit {0}
  IfUnified (Ok (Stuck place)) P = Unit {0}
  IfUnified (Err e) P = Unit {0}

  abbrev pub OnUnified : Result Solved E → Type 0 → Type 0
  OnUnified r P = IfUnified r (λ made. P)

  -- what holds where there is another answer, or memory ran out
  abbrev pub UnlessUnified : Result Solved E → Type 0 → Type 0
  UnlessUnified (Ok (Unified made)) P = Unit {0}
  UnlessUnified (Ok Apart) P = P
  UnlessUnified (Ok (Stuck place)) P = P
  UnlessUnified (Err e) P = P

-- the cells that the second store has more
abbrev pub AreNewCells : Contents → Contents → List CellId → Type 0
AreNewCells old new cs = (c : CellId) → Contains cs c ↔ (HoldsCell new c × (¬ HoldsCell old c))

-- cells in the order of their making, each once
abbrev pub AreInAge : List CellId → Type 0
AreInAge cs = AllPairs (λ a b. a.0 < b.0) cs

-- Of the cells that might be bound, and of those that were made, just those are unbound that the substitution doesn't replace.
abbrev pub AreLeft : Contents → List CellId → Table → Contents → Substitution ℕ (List ℕ) → Type 0
AreLeft old flexible types new s =
    (c : CellId) → Contains flexible c ⊎ (¬ HoldsCell old c) → HoldsCell new c → IsUnbound new c ↔ (holds (keys s) (cell_variable types new c) ≡ false)

-- nothing is bound, made or added, but room
abbrev pub IsAsBefore : Contents → Contents → Type 0
IsAsBefore old new = (new.nodes ≡ old.nodes) × (new.cells ≡ old.cells) × (new.bindings ≡ old.bindings)
