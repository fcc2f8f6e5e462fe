-- GUESSES of terms for variables, against what unification leaves open.
use Rattle.std.specs.Prelude.{◌≡◌, ℕ, List, [], ◌∷◌, ◌++◌, length, drop, filter, not, true, false, Option, Some, None}
use Rattle.ab_term.specs.Terms.{Variable, Term}
use Rattle.ab_term.specs.Typing.{Signature, HasType}
use Rattle.ab_term.specs.Names.{support}
use Rattle.ab_term.specs.Translation.{forget}
use Rattle.ab_term.specs.Variables.{Substitution, image_by}
use Rattle.ab_unifiers.specs.Replacements.{Cell, holds}
use Rattle.ab_unifiers.specs.Unification.{Equation}
use Rattle.ab_unifiers.specs.Unifiers.{keys}
use Rattle.ab_unifiers.specs.Clauses.{numbered}

-- the variables that may be replaced once equations are solved: of the old ones those that aren't, in order, and behind them
-- those that were made and aren't, in order of making
abbrev pub left_of : {Hint : Type 0} → List (Cell Hint) → List (Variable ℕ) → List (Cell Hint) → Substitution ℕ Hint → List (Variable ℕ)
left_of cells ys more q = filter (λ y. not (holds (keys q) y)) (ys ++ numbered (length cells) (drop (length cells) more))

-- a term for each of some variables, without hints
abbrev pub Guess : Type 0
Guess = Variable ℕ → Option (Term ℕ (Unit {0}))

-- A GUESS for these variables: for each a closed term of its type, in which no nominal constant stands
pub record IsGuessFor (sg : Signature) (ys : List (Variable ℕ)) (f : Guess) : Type 0 where
  pub typed : (y : Variable ℕ) (v : Term ℕ (Unit {0})) → f y ≡ Some v → HasType sg [] v y.type
  pub nameless : (y : Variable ℕ) (v : Term ℕ (Unit {0})) → f y ≡ Some v → support v ≡ []
  pub some : (y : Variable ℕ) → holds ys y ≡ true → (v : Term ℕ (Unit {0})) × (f y ≡ Some v)
  pub none : (y : Variable ℕ) → holds ys y ≡ false → f y ≡ None

-- it makes both sides of each equation the same
abbrev pub MakesEqual : {Hint : Type 0} → Guess → List (Equation Hint) → Type 0
MakesEqual f [] = Unit {0}
MakesEqual f (e ∷ es) = (image_by f (forget e.left) ≡ image_by f (forget e.right)) × MakesEqual f es
