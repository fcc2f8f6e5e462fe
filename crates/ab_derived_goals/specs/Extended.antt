-- A DERIVATION GOES ON at its first open goal.
use Rattle.std.specs.Prelude.{◌≡◌, List, ◌++◌}
use Rattle.ab_formulas.specs.Declarations.{Declarations}
use Rattle.ab_formulas.specs.Sequents.{Sequent}
use Rattle.ab_theory.specs.Derivations.{Derivation, root, Valid, open_goals, Debt, OwesMore}

-- THE SECOND DERIVATION is of the same sequent: these goals are open in the place of the first, and the rest behind them; and it owes this more
pub record IsExtended (D : Declarations) (d : Derivation) (ps rest : List Sequent) (owed : List Debt) (e : Derivation) : Type 0 where
  pub valid : Valid D e
  pub derives : root e ≡ root d
  pub leaves : open_goals e ≡ ps ++ rest
  pub owes : OwesMore owed d e
