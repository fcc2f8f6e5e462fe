-- A STEP OF THE KERNEL IS TAKEN at a sequent, whatever its numbers and names, and where it leads.
use Rattle.std.specs.Prelude.{ℕ, List}
use Rattle.ab_unifiers.specs.Replacements.{Cell}
use Rattle.ab_formulas.specs.Declarations.{Declarations}
use Rattle.ab_formulas.specs.Sequents.{Sequent}
use Rattle.ab_theory.specs.Equations.{AreCells}
use Rattle.ab_theory.specs.Steps.{Step}
use Rattle.ab_theory.specs.Row.{Takes}
use Rattle.ab_theory.specs.Rules.{row, any_name, Rule, Fails, Stuck}

-- THE STEP IS ALLOWED, over whatever variables were ever made: no condition of its rule fails, none of its equations is outside the patterns,
-- and there are premises. And all that its rule ever leads to from the sequent has the property.
pub record LeadsTo (D : Declarations) (step : Step) (s : Sequent) (P : List Sequent → Type 0) : Type 0 where
  pub allowed : (cells : List (Cell (List ℕ))) → AreCells cells s → (i : ℕ) → ¬ Fails D cells step s i
  pub within : (cells : List (Cell (List ℕ))) → AreCells cells s → (i : ℕ) → ¬ Stuck D cells step s i
  pub some : (cells : List (Cell (List ℕ))) → AreCells cells s → (ps : List Sequent) × Takes (row D (any_name cells) step s) ps
  pub all : (ps : List Sequent) → Rule D step s ps → P ps
