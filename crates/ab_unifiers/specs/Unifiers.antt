-- What problems and answers are, in the words of substitutions: unifiers, and the most general ones.
use Rattle.std.specs.Prelude.{◌≡◌, ◌⊎◌, ℕ, ◌<◌, ◌≤◌, List, [], ◌∷◌, map, filter, length, slice_get, option_map, Some, true, false, Contains}
use Rattle.ab_term.specs.Types.{Ty}
use Rattle.ab_term.specs.Terms.{Variable, Term}
use Rattle.ab_term.specs.Typing.{Signature, HasType}
use Rattle.ab_term.specs.Translation.{EqualPastHints}
use Rattle.ab_term.specs.Variables.{Substitution, variables, value_in, image, composition, IsTyped, IsClean}
use Rattle.ab_term.specs.Sameness.{same_number}
use Rattle.ab_term.specs.Abstraction.{Only}
use Rattle.ab_unifiers.specs.Replacements.{Cell, holds}
use Rattle.ab_unifiers.specs.Unification.{Equation, State}

module _ {Hint : Type 0} where
  -- a problem as it is given: nothing is put in yet
  abbrev pub given : List (Equation Hint) → List (Cell Hint) → List (Variable ℕ) → State Hint
  given es cells ys = record { equations = es; cells = cells; flexible = ys; pairs = [] }

  abbrev pub sides : List (Equation Hint) → List (Term ℕ Hint)
  sides [] = []
  sides (e ∷ es) = e.left ∷ e.right ∷ sides es

module _ (sg : Signature) {Hint : Type 0} where
  -- both sides are canonical terms of one type, over the same bound names
  abbrev pub IsTypedEquation : Equation Hint → Type 0
  IsTypedEquation e = (names : List Ty) × (A : Ty) × HasType sg names e.left A × HasType sg names e.right A

  abbrev pub AreTyped : List (Equation Hint) → Type 0
  AreTyped [] = Unit {0}
  AreTyped (e ∷ es) = IsTypedEquation e × AreTyped es

module _ {Hint : Type 0} where
  -- each of the variables has the number of a cell
  abbrev pub AreKnown : List (Cell Hint) → List (Variable ℕ) → Type 0
  AreKnown cells ys = (y : Variable ℕ) → holds ys y ≡ true → y.name < length cells

  -- each variable of the term has
  abbrev pub IsOver : List (Cell Hint) → Term ℕ Hint → Type 0
  IsOver cells t = AreKnown cells (variables t)

  abbrev pub AreOver : List (Cell Hint) → List (Equation Hint) → Type 0
  AreOver cells [] = Unit {0}
  AreOver cells (e ∷ es) = IsOver cells e.left × IsOver cells e.right × AreOver cells es

  -- the variable has the number of a cell, and that cell's type
  abbrev pub IsCell : List (Cell Hint) → Variable ℕ → Type 0
  IsCell cells y = option_map (λ c. c.type) (slice_get cells y.name) ≡ Some y.type

  -- each variable of the term is such a one
  abbrev pub HoldsCells : List (Cell Hint) → Term ℕ Hint → Type 0
  HoldsCells cells t = (y : Variable ℕ) → Contains (variables t) y → IsCell cells y

  abbrev pub AllHoldCells : List (Cell Hint) → List (Equation Hint) → Type 0
  AllHoldCells cells [] = Unit {0}
  AllHoldCells cells (e ∷ es) = HoldsCells cells e.left × HoldsCells cells e.right × AllHoldCells cells es

  -- the substitution makes both sides the same, past hints
  abbrev pub Unifies : Substitution ℕ Hint → List (Equation Hint) → Type 0
  Unifies s [] = Unit {0}
  Unifies s (e ∷ es) = EqualPastHints (image same_number s e.left) (image same_number s e.right) × Unifies s es

-- A TYPED STATE between two steps: each equation is typed, what is flexible has the number of a cell, and what is put
-- in for a variable is closed, of its type, and without nominal constants
pub record IsTypedState (sg : Signature) {Hint : Type 0} (s : State Hint) : Type 0 where
  pub equations : AreTyped sg s.equations
  pub known : AreKnown s.cells s.flexible
  pub typed : IsTyped sg s.pairs
  pub nameless : (y : Variable ℕ) (u : Term ℕ Hint) → value_in same_number s.pairs y ≡ Some u → Only [] u

-- the variables that are replaced
abbrev pub keys : {Hint : Type 0} → Substitution ℕ Hint → List (Variable ℕ)
keys s = map (λ p. p.0) s

abbrev pub AreDifferent : List (Variable ℕ) → Type 0
AreDifferent [] = Unit {0}
AreDifferent (y ∷ ys) = (holds ys y ≡ false) × AreDifferent ys

-- one of these, or made since there were n cells
abbrev pub Comes : ℕ → List (Variable ℕ) → ℕ → Variable ℕ → Type 0
Comes n ys now y = (holds ys y ≡ true) ⊎ ((n ≤ y.name) × (y.name < now))

-- the substitution, cut down to these variables
abbrev pub restricted : {Hint : Type 0} → List (Variable ℕ) → Substitution ℕ Hint → Substitution ℕ Hint
restricted ys s = filter (λ p. holds ys p.0) s

-- A UNIFIER: a substitution of the flexible variables, clean for the equations, that makes both sides of each the same
pub record IsUnifier (sg : Signature) {Hint : Type 0} (ys : List (Variable ℕ)) (es : List (Equation Hint)) (u : Substitution ℕ Hint) : Type 0 where
  pub typed : IsTyped sg u
  pub clean : IsClean u (sides es)
  pub within : (y : Variable ℕ) → holds (keys u) y ≡ true → holds ys y ≡ true
  pub unifies : Unifies u es

-- the second substitution is the first and then another, on every term over the cells
abbrev pub IsInstance : (sg : Signature) {Hint : Type 0} → List (Cell Hint) → Substitution ℕ Hint → Substitution ℕ Hint → Type 0
IsInstance sg {Hint = Hint} cells s u = (r : Substitution ℕ Hint) × IsTyped sg r × ((names : List Ty) (t : Term ℕ Hint) (A : Ty) → HasType sg names t A → IsOver cells t → EqualPastHints (image same_number u t) (image same_number (composition same_number s r) t))

-- A MOST GENERAL UNIFIER: each unifier is an instance of it
pub record IsMostGeneral (sg : Signature) {Hint : Type 0} (cells : List (Cell Hint)) (ys : List (Variable ℕ)) (es : List (Equation Hint)) (s : Substitution ℕ Hint) : Type 0 where
  pub unifier : IsUnifier sg ys es s
  pub general : (u : Substitution ℕ Hint) → IsUnifier sg ys es u → IsInstance sg cells s u
