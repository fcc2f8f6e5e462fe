-- When a formula may stand for another in a goal, and when a step is allowed there.
use Rattle.std.specs.Prelude.{◌≡◌, ℕ, List}
use Rattle.ab_term.specs.Types.{prop}
use Rattle.ab_term.specs.Terms.{Read}
use Rattle.ab_term.specs.Names.{EqualUpToNames}
use Rattle.ab_unifiers.specs.Replacements.{Cell}
use Rattle.ab_formulas.specs.Declarations.{Declarations, signature_in}
use Rattle.ab_formulas.specs.Formulas.{IsFormula}
use Rattle.ab_formulas.specs.Marks.{erased, marks_of}
use Rattle.ab_formulas.specs.Sequents.{Sequent, Fits}
use Rattle.ab_theory.specs.Steps.{Step}
use Rattle.ab_theory.specs.Rules.{Fails}

-- THE FIRST FORMULA STANDS FOR THE SECOND in the goal: it is one of the goal, and the same but for hints and for nominal constants
-- that change places; and their marks are the same
pub record StandsFor (D : Declarations) (s : Sequent) (F G : Read) : Type 0 where
  pub fits : Fits D s F prop
  pub formula : IsFormula (signature_in D) F
  pub same : EqualUpToNames (erased F) (erased G)
  pub marks : marks_of F ≡ marks_of G

-- NO CONDITION OF THE STEP'S RULE FAILS at the goal, whatever variables were ever made
abbrev pub IsAllowed : Declarations → Step → Sequent → Type 0
IsAllowed D step s = (cells : List (Cell (List ℕ))) (i : ℕ) → Fails D cells step s i → ⊥
