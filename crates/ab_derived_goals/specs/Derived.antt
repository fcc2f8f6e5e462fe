-- A GOAL IS DERIVED FROM OTHERS: a derivation of it leaves these open.
use Rattle.std.specs.Prelude.{◌≡◌, List, map}
use Rattle.ab_unifiers.specs.Member.{HasMember}
use Rattle.ab_formulas.specs.Declarations.{Declarations, HaveSentences, HaveDefinitions, signature_in}
use Rattle.ab_formulas.specs.NamedGoals.{named}
use Rattle.ab_formulas.specs.Programs.{HavePrograms}
use Rattle.ab_formulas.specs.Sequents.{Sequent}
use Rattle.ab_theory.specs.Derivations.{Derivation, root, Valid, open_goals, Debt, debts}

-- WHAT IS DECLARED IS SOUND: theorems are sentences, what is defined is so by clauses of case analysis, the program's clauses are
-- typed, and `member` is
pub record AreSound (D : Declarations) : Type 0 where
  pub sentences : HaveSentences D
  pub definitions : HaveDefinitions D
  pub programs : HavePrograms D
  pub member : HasMember (signature_in D)

-- EACH STEP IS TAKEN BY ITS RULE, these goals are left open, and this is owed
pub record Derives (D : Declarations) (s : Sequent) (ps : List Sequent) (owed : List Debt) (d : Derivation) : Type 0 where
  pub derives : root d ≡ s
  pub valid : Valid D d
  pub leaves : open_goals d ≡ ps
  pub owes : debts d ≡ owed

abbrev pub IsDerived : Declarations → Sequent → List Sequent → List Debt → Type 0
IsDerived D s ps owed = (d : Derivation) × Derives D s ps owed d

-- A GOAL IS DERIVED FROM GOALS THAT ARE THESE with names for the numbers of their variables
abbrev pub IsDerivedAlike : Declarations → Sequent → List Sequent → List Debt → Type 0
IsDerivedAlike D s ps owed = (qs : List Sequent) × IsDerived D s qs owed × (map named qs ≡ map named ps)
