-- RAISING: variables become new ones that depend on some nominal constants besides, and are given these.
use Rattle.std.specs.Prelude.{◌≡◌, ◌≢◌, ◌⊎◌, ℕ, List, map, true, false, cond, Some, None, Contains, AllPairs}
use Rattle.ab_term.specs.Types.{Ty}
use Rattle.ab_term.specs.Terms.{Nominal, Variable, Term}
use Rattle.ab_term.specs.Typing.{Signature, HasType}
use Rattle.ab_term.specs.Names.{support, moved_by, IsPermutationTable}
use Rattle.ab_term.specs.Translation.{forget}
use Rattle.ab_term.specs.Variables.{variables, image_by}
use Rattle.ab_term.specs.Abstraction.{over, given_names}
use Rattle.ab_unifiers.specs.Replacements.{holds}
use Rattle.ab_unifiers.specs.Unification.{Equation}
use Rattle.ab_unifiers.specs.Choices.{outside}
use Rattle.ab_unifiers.specs.Clauses.{Each}
use Rattle.ab_search_trees.specs.Lifting.{Guess}

-- a term without hints
abbrev pub Bare : Type 0
Bare = Term ℕ (Unit {0})

-- how variables are raised: the new numbers, and the constants
pub record Raising : Type 0 where
  pub number : ℕ → ℕ
  pub constants : List Nominal

abbrev pub raised : Raising → Variable ℕ → Variable ℕ
raised r w = record { name = r.number w.name; type = over r.constants w.type }

-- the new variable, given the constants
abbrev pub raised_term : Raising → Variable ℕ → Bare
raised_term r w = given_names tt (raised r w) r.constants w.type

-- what is put in for these variables, so that they are raised
abbrev pub raising : Raising → List (Variable ℕ) → Guess
raising r ws y = cond (holds ws y) (Some (raised_term r y)) None

-- the right sides are these terms, raised
abbrev pub AreRaised : {Hint : Type 0} → Raising → List (Variable ℕ) → List Bare → List (Equation Hint) → Type 0
AreRaised r ws ts es = Each (λ t e. forget e.right ≡ image_by (raising r ws) t) ts es

-- the variable is none of these, nor what becomes of one
pub record IsApart (ws : List (Variable ℕ)) (r s : Raising) (y : Variable ℕ) : Type 0 where
  pub itself : holds ws y ≡ false
  pub first : holds (map (raised r) ws) y ≡ false
  pub second : holds (map (raised s) ws) y ≡ false

-- WHAT IS RAISED IN TWO WAYS, r and s, with the guess f for the first. The second is up to a permutation of nominal constants. A
-- constant over which the first raises may be missing in the second.
pub record AreRaisings (sg : Signature) (ws : List (Variable ℕ)) (ts : List Bare) (r s : Raising) (f : Guess) (ps : List (Nominal × Nominal)) : Type 0 where
  pub permutation : IsPermutationTable ps
  pub different : AllPairs (λ a b. a ≢ b) s.constants
  pub numbers : (v w : Variable ℕ) → holds ws v ≡ true → holds ws w ≡ true → (r.number v.name ≡ r.number w.name) ⊎ (s.number v.name ≡ s.number w.name) → v ≡ w
  pub typed : (t : Bare) → Contains ts t → (G : List Ty) × (A : Ty) × HasType sg G t A
  -- the variables of the terms: those that are raised, and others that aren't replaced
  pub standing : (t : Bare) → Contains ts t → (y : Variable ℕ) → holds (variables t) y ≡ true → (holds ws y ≡ true) ⊎ (IsApart ws r s y × (f y ≡ None))
  pub values : (w : Variable ℕ) → holds ws w ≡ true → (y : Variable ℕ) → holds (variables (image_by f (raised_term r w))) y ≡ true → IsApart ws r s y
  -- constants that aren't the first's don't become the second's
  pub constants : (t : Bare) → Contains ts t → (a : Nominal) → Contains (support t) a → Contains r.constants a ⊎ ¬ (Contains s.constants (moved_by ps a))

-- the constants of the first that are missing in the second
abbrev pub missing : Raising → Raising → List (Nominal × Nominal) → List Nominal
missing r s ps = outside (map (moved_by ps) r.constants) s.constants
