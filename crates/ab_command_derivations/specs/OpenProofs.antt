-- PROOFS IN PROGRESS: a formula is being proved, these goals are left of it, and these places of theorems are assumed so far. That a derivation
-- bears this out.
use Rattle.std.specs.Prelude.{◌≡◌, ℕ, List, map}
use Rattle.ab_term.specs.Terms.{Read}
use Rattle.ab_formulas.specs.Declarations.{Declarations, signature_in}
use Rattle.ab_formulas.specs.Formulas.{IsSentence}
use Rattle.ab_formulas.specs.NamedGoals.{Goal, named}
use Rattle.ab_theory.specs.Assumptions.{assumed_by}
use Rattle.ab_theory.specs.Derivations.{Derivation, root, Valid, open_goals, proves}

-- THE DERIVATION IS ONE OF THE FORMULA, as far as it was made: these goals are open, with names for the numbers of their variables, and these
-- places are assumed by it
pub record IsProofOf (D : Declarations) (F : Read) (goals : List Goal) (assumed : List ℕ) (d : Derivation) : Type 0 where
  pub sentence : IsSentence (signature_in D) F
  pub derives : root d ≡ proves F 0
  pub valid : Valid D d
  pub leaves : map named (open_goals d) ≡ goals
  pub assumes : assumed ≡ assumed_by D d

abbrev pub HasProof : Declarations → Read → List Goal → List ℕ → Type 0
HasProof D F goals assumed = (d : Derivation) × IsProofOf D F goals assumed d
