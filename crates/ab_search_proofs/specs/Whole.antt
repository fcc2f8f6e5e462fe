-- WHOLE DERIVATIONS of sequents; and the goal that a sequent itself is.
use Rattle.std.specs.Prelude.{◌≡◌, List, [], map}
use Rattle.ab_formulas.specs.Declarations.{Declarations}
use Rattle.ab_formulas.specs.Sequents.{Variable, Sequent}
use Rattle.ab_theory.specs.Derivations.{Derivation, root, Valid, open_goals, debts}
use Rattle.ab_search_proofs.specs.Likeness.{StandIn}

-- EACH STEP IS TAKEN BY ITS RULE, no goal is open, and nothing is owed: no theorem was taken, and no goal admitted
pub record IsWhole (D : Declarations) (s : Sequent) (d : Derivation) : Type 0 where
  pub derives : root d ≡ s
  pub valid : Valid D d
  pub closed : open_goals d ≡ []
  pub nothing_owed : debts d ≡ []

-- each variable of the sequent stands in for itself
abbrev pub itself : Variable → StandIn
itself x = record { number = x.number; constants = []; variable = x; reordered = []; type = x.type }

abbrev pub themselves : Sequent → List StandIn
themselves s = map itself s.variables
