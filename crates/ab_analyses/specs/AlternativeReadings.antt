-- What the program's alternatives stand for.
use Rattle.std.specs.Prelude.{◌≡◌, ℕ, List, [], map, All}
use Rattle.ab_term.specs.Variables.{Substitution}
use Rattle.ab_norm.specs.ab_store.specs.Naming.{IsTerm}
use Rattle.ab_norm.specs.ab_store.specs.Reading.{cell_variable}
use Rattle.ab_norm.specs.ab_store.specs.Trees.{cell_of}
use Rattle.ab_norm.specs.ab_types.specs.Ids.{type_of}
use Rattle.ab_norm.specs.Nominals.{HoldsNominal}
use Rattle.ab_unifiers.specs.Clauses.{Each}
use Rattle.ab_unifiers.specs.Replacements.{Cell}
use Rattle.ab_unify.specs.Problem.{cells_read, variables_read}
use Rattle.ab_unify.specs.UnifyAnswers.{IsTypedPair}
use Rattle.ab_logic.specs.Worlds.{Holds, HoldsCell, read}
use Rattle.ab_logic.specs.declared.world.World.{World}
use Rattle.ab_alternatives.specs.ab_instances.specs.ListReadings.{names_read}
use Rattle.ab_alternatives.specs.LeftAlternatives.{images_from}
use Rattle.ab_analyses.specs.Alternatives.{Alternative, AlternativeOver, variables_of, made_in_turn, all_made}
use Rattle.ab_analyses.specs.declared.answers.Raise.{Raise}
use Rattle.ab_analyses.specs.declared.answers.Alternative.{Alternative as Kept}

-- what the variables become
abbrev pub raised_read : World → List Raise → Substitution ℕ (List ℕ)
raised_read w = map (λ r. (cell_variable w.types w.store r.cell, read w r.to))

-- THE PROGRAM'S ALTERNATIVE STANDS FOR this one. Its equations are those where what the goal's variables become is put in for them.
pub record StandsFor (w : World) (k : Kept) (a : Alternative) : Type 0 where
  pub fresh : names_read w.types k.fresh.items ≡ a.fresh
  pub raised : raised_read w k.raised.items ≡ a.raised
  pub made : variables_read w.types w.store k.made.items ≡ variables_of a
  pub equations : images_from w.types w.store a.raised 0 k.equations.items ≡ a.equations
  pub body : read w k.body ≡ a.body

-- the cell is there, and the term is one of its type
abbrev pub IsTypedRaise : World → Raise → Type 0
IsTypedRaise w r = HoldsCell w r.cell × IsTerm w.types w.store [] r.to (type_of w.types (cell_of w.store r.cell).ty)

-- what it names is there and typed
pub record HoldsAlternative (w : World) (k : Kept) : Type 0 where
  pub fresh : All (HoldsNominal w.types) k.fresh.items
  pub raised : All (IsTypedRaise w) k.raised.items
  pub made : All (HoldsCell w) k.made.items
  pub equations : All (IsTypedPair w.types w.store) k.equations.items
  pub body : Holds w k.body

-- THE PROGRAM'S LIST STANDS FOR these, made one after another in a world that had these cells: each of it for one, in order
pub record AreMade (w : World) (list : List Kept) (makes : List AlternativeOver) (before : List (Cell (List ℕ))) : Type 0 where
  pub each : Each (StandsFor w) list (made_in_turn makes before)
  pub held : All (HoldsAlternative w) list
  pub cells : cells_read w.types w.store ≡ all_made makes before
