-- New constants for variables that stay open, one after another: each of the least number that no constant has by then.
use Rattle.std.specs.Prelude.{List, [], ◌∷◌, ◌++◌, ℕ}
use Rattle.ab_term.specs.Terms.{Nominal}
use Rattle.ab_term.specs.Variables.{Substitution}
use Rattle.ab_unifiers.specs.Choices.{new_constant}
use Rattle.ab_formulas.specs.Sequents.{Variable, in_terms}
use Rattle.ab_theory.specs.Rules.{name_term}

abbrev pub constants_for : List Nominal → List Variable → List Nominal
constants_for known [] = []
constants_for known (y ∷ ys) = new_constant known y.type ∷ constants_for (known ++ new_constant known y.type ∷ []) ys

-- each variable with its constant
abbrev pub pairs_for : List Nominal → List Variable → Substitution ℕ (List ℕ)
pairs_for known [] = []
pairs_for known (y ∷ ys) = (in_terms y, name_term (new_constant known y.type)) ∷ pairs_for (known ++ new_constant known y.type ∷ []) ys
