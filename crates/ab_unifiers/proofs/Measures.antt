-- How many arguments a type takes, and how large a term is.
use Rattle.std.proofs.Common.{ℕ, ◌+◌, List, [], ◌∷◌}
use Rattle.ab_term.specs.Types.{arity}
use Rattle.ab_term.specs.Terms.{Variable}
use Rattle.ab_term.specs.Sizes.{size}
use Rattle.ab_unifiers.specs.Unification.{Equation}

abbrev pub arities : List (Variable ℕ) → ℕ
arities [] = 0
arities (y ∷ ys) = arity y.type + arities ys

module _ {Hint : Type 0} where
  abbrev pub total : List (Equation Hint) → ℕ
  total [] = 0
  total (e ∷ es) = (size e.left + size e.right) + total es
