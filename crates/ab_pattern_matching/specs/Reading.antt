-- WHAT CAN BE READ OFF. Where a variable stands in a term, given different names and under none of the variables, then from
-- what the term is to be equal to one reads off what the variable is.
use Rattle.std.specs.Prelude.{◌≡◌, ℕ, List, [], ◌∷◌, Bool, true, false, cond, ◌||◌, Some, None, is_some, Contains}
use Rattle.ab_term.specs.Terms.{Nominal, Variable, Head, variable, Term, lam, spine, Terms, no_terms, term}
use Rattle.ab_term.specs.Typing.{Signature, HasType}
use Rattle.ab_term.specs.Names.{support}
use Rattle.ab_term.specs.Variables.{variables, image_by}
use Rattle.ab_term.specs.Translation.{forget}
use Rattle.ab_unifiers.specs.Patterns.{pattern}
use Rattle.ab_unifiers.specs.Replacements.{holds}
use Rattle.ab_unifiers.specs.Unification.{Equation}
use Rattle.ab_unifiers.specs.Clauses.{Within}
use Rattle.ab_search_trees.specs.Lifting.{Guess}

module _ {Hint : Type 0} where
  abbrev pub read_at : List (Variable ℕ) → Head ℕ → Terms ℕ Hint → Bool → Bool
  read_at us (variable y) ts rest = cond (holds us y) (is_some (pattern y.type ts)) rest
  read_at us h ts rest = rest

  -- some of these variables can be read off the term
  abbrev mutual
    pub can_read : List (Variable ℕ) → Term ℕ Hint → Bool
    can_read us (lam A x t) = can_read us t
    can_read us (spine h ts) = read_at us h ts (can_read_one us ts)

    pub can_read_one : List (Variable ℕ) → Terms ℕ Hint → Bool
    can_read_one us no_terms = false
    can_read_one us (term t ts) = can_read us t || can_read_one us ts

  -- each of the equations is such a one
  abbrev pub Every : (Equation Hint → Type 0) → List (Equation Hint) → Type 0
  Every P [] = Unit {0}
  Every P (e ∷ es) = P e × Every P es

  -- none of the variables stands in the term
  abbrev pub HasNoneOf : List (Variable ℕ) → Term ℕ Hint → Type 0
  HasNoneOf us t = (y : Variable ℕ) → holds us y ≡ true → holds (variables t) y ≡ false

-- A GUESS for these variables whose terms hold no nominal constants but of these
pub record IsGuessOver (sg : Signature) (ys : List (Variable ℕ)) (ns : List Nominal) (f : Guess) : Type 0 where
  pub typed : (y : Variable ℕ) (v : Term ℕ (Unit {0})) → f y ≡ Some v → HasType sg [] v y.type
  pub held : (y : Variable ℕ) (v : Term ℕ (Unit {0})) → f y ≡ Some v → (a : Nominal) → Contains (support v) a → Contains ns a
  pub some : (y : Variable ℕ) → holds ys y ≡ true → (v : Term ℕ (Unit {0})) × (f y ≡ Some v)
  pub none : (y : Variable ℕ) → holds ys y ≡ false → f y ≡ None

-- the guess, but for these variables
abbrev pub but : List (Variable ℕ) → Guess → Guess
but us f y = cond (holds us y) None (f y)

module _ {Hint : Type 0} where
  -- with terms for all others, none of these variables can be read off a right side
  abbrev pub NoneRead : List (Variable ℕ) → Guess → List (Equation Hint) → Type 0
  NoneRead us f = Every (λ e. can_read us (image_by (but us f) (forget e.right)) ≡ false)

  -- with terms for all others, no right side depends on these variables
  abbrev pub NoneMatters : List (Variable ℕ) → Guess → List (Equation Hint) → Type 0
  NoneMatters us f = Every (λ e. image_by (but us f) (forget e.right) ≡ image_by f (forget e.right))

  -- READ OFF IN TURN: as long as some variables matter, one of them can be read off, with terms for all others
  abbrev pub ReadInTurn : List (Variable ℕ) → Guess → List (Equation Hint) → Type 0
  ReadInTurn zs f es = (us : List (Variable ℕ)) → Within us zs → NoneRead us f es → NoneMatters us f es

  -- no left side holds one of these variables
  abbrev pub LeftsWithout : List (Variable ℕ) → List (Equation Hint) → Type 0
  LeftsWithout zs = Every (λ e. HasNoneOf zs e.left)

  -- none of these constants stands in the equations
  abbrev pub HoldNoneOf : List Nominal → List (Equation Hint) → Type 0
  HoldNoneOf ns = Every (λ e. (a : Nominal) → Contains ns a → ¬ (Contains (support e.left) a) × ¬ (Contains (support e.right) a))

  -- the second equations are the first, past hints, with the guess put in for all variables but these
  abbrev pub ArePutIn : List (Variable ℕ) → Guess → List (Equation Hint) → List (Equation Hint) → Type 0
  ArePutIn zs f [] [] = Unit {0}
  ArePutIn zs f [] (d ∷ ds) = ⊥
  ArePutIn zs f (e ∷ es) [] = ⊥
  ArePutIn zs f (e ∷ es) (d ∷ ds) = (forget d.left ≡ image_by (but zs f) (forget e.left)) × (forget d.right ≡ image_by (but zs f) (forget e.right)) × ArePutIn zs f es ds

-- THE OTHER WAY ROUND: the sides change places
abbrev pub turned : {Hint : Type 0} → Equation Hint → Equation Hint
turned e = record { place = e.place; left = e.right; right = e.left }
