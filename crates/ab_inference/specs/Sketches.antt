-- Expressions whose names are resolved, with a type variable at each binder and equation, and their readings under an
-- assignment of types to the variables. Free names have variables of their own behind these, from `base` on, in order.
use Rattle.std.specs.Prelude.{◌≡◌, ℕ, zero, suc, ◌+◌, ◌<◌, List, [], ◌∷◌, ◌++◌, length, get_or, Option, Some, None}
use Rattle.ab_term.specs.Types.{Ty, arrow, prop}
use Rattle.ab_term.specs.Terms.{Head, index}
use Rattle.ab_term.specs.Beta.{atom, abstraction, application}
use Rattle.ab_meaning.specs.Types.{PropFree}
use Rattle.ab_meaning.specs.ResolvedNames as names
use Rattle.ab_meaning.specs.ResolvedNames.{Name, Resolved, Binding, binding_type}
use Rattle.ab_meaning.specs.Readings.{Raw, Making, Keeps, bound_term, equation}

pub data Sketch : Type 0 where
  -- a bound name's index and variable
  bound : ℕ → ℕ → Sketch
  known : Head ℕ → Ty → Sketch
  -- a free name, its number and its place
  free : Name → ℕ → ℕ → Sketch
  apply : Sketch → Sketch → Sketch
  -- an argument, and behind it the function that takes it
  behind : Sketch → Sketch → Sketch
  -- a name, its variable and its place
  abs : Name → ℕ → ℕ → Sketch → Sketch
  -- the variable of both sides
  equal : ℕ → Sketch → Sketch → Sketch
  bind : Binding → Name → ℕ → ℕ → Option Ty → Sketch → Sketch

-- what is left without the variables
abbrev pub erase : Sketch → Resolved
erase (bound i n) = names.bound i
erase (known h A) = names.known h A
erase (free x j p) = names.free x p
erase (apply e f) = names.apply (erase e) (erase f)
erase (behind e f) = names.behind (erase e) (erase f)
erase (abs x n p e) = names.abs x p (erase e)
erase (equal n e f) = names.equal (erase e) (erase f)
erase (bind q x n p w e) = names.bind q x p w (erase e)

-- how many variables stand at binders and equations
abbrev pub count : Sketch → ℕ
count (bound i n) = 0
count (known h A) = 0
count (free x j p) = 0
count (apply e f) = count e + count f
count (behind e f) = count e + count f
count (abs x n p e) = suc (count e)
count (equal n e f) = suc (count e + count f)
count (bind q x n p w e) = suc (count e)

-- the variable at an index, where the innermost comes first
abbrev pub variable_at : List ℕ → ℕ → Option ℕ
variable_at [] i = None
variable_at (n ∷ ns) zero = Some n
variable_at (n ∷ ns) (suc i) = variable_at ns i

-- The variables are numbered from n on, in order; bound names have those of their binders, of which the list has the outer
-- ones; and the numbers of free names are their places in a list.
abbrev pub Fit : List Name → List ℕ → ℕ → Sketch → Type 0
Fit frees ctx n (bound i m) = variable_at ctx i ≡ Some m
Fit frees ctx n (known h A) = Unit {0}
Fit frees ctx n (free x j p) = (j < length frees) × (get_or frees j [] ≡ x)
Fit frees ctx n (apply e f) = Fit frees ctx n e × Fit frees ctx (n + count e) f
Fit frees ctx n (behind e f) = Fit frees ctx n e × Fit frees ctx (n + count e) f
Fit frees ctx n (abs x m p e) = (m ≡ n) × Fit frees (m ∷ ctx) (suc n) e
Fit frees ctx n (equal m e f) = (m ≡ n) × Fit frees ctx (suc n) e × Fit frees ctx (suc n + count e) f
Fit frees ctx n (bind q x m p w e) = (m ≡ n) × Fit frees (m ∷ ctx) (suc n) e

module _ (base : ℕ) (v : ℕ → Ty) where
  -- the expression is of the type
  abbrev pub Typed : Sketch → Ty → Type 0
  Typed (bound i n) A = A ≡ v n
  Typed (known h B) A = A ≡ B
  Typed (free x j p) A = A ≡ v (base + j)
  Typed (apply e f) A = (B : Ty) × Typed e (arrow B A) × Typed f B
  Typed (behind e f) A = (B : Ty) × Typed e B × Typed f (arrow B A)
  Typed (abs x n p e) A = (B : Ty) × (A ≡ arrow (v n) B) × Typed e B
  Typed (equal n e f) A = (A ≡ prop) × Typed e (v n) × Typed f (v n)
  Typed (bind q x n p w e) A = (A ≡ binding_type q) × Keeps w (v n) × Typed e (binding_type q)

  abbrev pub AllTyped : List Sketch → List Ty → Type 0
  AllTyped [] [] = Unit {0}
  AllTyped [] (A ∷ As) = ⊥
  AllTyped (k ∷ ks) [] = ⊥
  AllTyped (k ∷ ks) (A ∷ As) = Typed k A × AllTyped ks As

  -- the types at binders and free names, in the order of the text
  abbrev pub given : Sketch → List Ty
  given (bound i n) = []
  given (known h A) = []
  given (free x j p) = v (base + j) ∷ []
  given (apply e f) = given e ++ given f
  given (behind e f) = given e ++ given f
  given (abs x n p e) = v n ∷ given e
  given (equal n e f) = given e ++ given f
  given (bind q x n p w e) = v n ∷ given e

  module _ (made : Making) where
    -- the term that the assignment makes
    abbrev pub term_of : Sketch → Raw
    term_of (bound i n) = atom (index i)
    term_of (known h A) = atom h
    term_of (free x j p) = atom (made x (v (base + j)))
    term_of (apply e f) = application (term_of e) (term_of f)
    term_of (behind e f) = application (term_of f) (term_of e)
    term_of (abs x n p e) = abstraction (v n) x (term_of e)
    term_of (equal n e f) = equation (v n) (term_of e) (term_of f)
    term_of (bind q x n p w e) = bound_term q x (v n) (term_of e)

abbrev pub AreFree : List Ty → Type 0
AreFree [] = Unit {0}
AreFree (A ∷ As) = PropFree A × AreFree As

-- a binder's variable, or a free name's number, and its place
pub data Mark : Type 0 where
  binder_mark : ℕ → ℕ → Mark
  free_mark : ℕ → ℕ → Mark

-- binders and free names, in the order of the text
abbrev pub marks_of : Sketch → List Mark
marks_of (bound i n) = []
marks_of (known h A) = []
marks_of (free x j p) = free_mark j p ∷ []
marks_of (apply e f) = marks_of e ++ marks_of f
marks_of (behind e f) = marks_of e ++ marks_of f
marks_of (abs x n p e) = binder_mark n p ∷ marks_of e
marks_of (equal n e f) = marks_of e ++ marks_of f
marks_of (bind q x n p w e) = binder_mark n p ∷ marks_of e

abbrev pub variable_of : ℕ → Mark → ℕ
variable_of base (binder_mark n p) = n
variable_of base (free_mark j p) = base + j

abbrev pub mark_place : Mark → ℕ
mark_place (binder_mark n p) = p
mark_place (free_mark j p) = p
