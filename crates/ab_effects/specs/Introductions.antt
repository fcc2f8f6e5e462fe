-- What `intros` takes off a conclusion: a `forall` makes a variable over the conclusion's constants, a `nabla` a constant,
-- and an implication a hypothesis, which isn't opened.
use Rattle.std.specs.Prelude.{◌≡◌, ℕ, List, [], ◌∷◌, Option, Some, None}
use Rattle.ab_term.specs.Types.{Ty}
use Rattle.ab_term.specs.Substitution.{instance}
use Rattle.ab_term.specs.Terms.{Read}
use Rattle.ab_formulas.specs.Declarations.{Declarations}
use Rattle.ab_formulas.specs.Forms.{Form, for_all, nabla, implies, form_of}
use Rattle.ab_formulas.specs.Sequents.{Sequent, assuming, proving}
use Rattle.ab_formulas.specs.NewNames.{Label, auto, given, Names, NoName, IsLeast}
use Rattle.ab_theory.specs.Rules.{MayName, name_term}
use Rattle.ab_effects.specs.Openings.{Taken}

-- a conclusion of this form stays
abbrev pub IsKept : Form → Type 0
IsKept (for_all A t) = ⊥
IsKept (nabla A t) = ⊥
IsKept (implies A B) = ⊥
IsKept _ = Unit {0}

-- something can be taken off
abbrev pub taken_off : Form → Option (Unit {0})
taken_off (for_all A t) = Some tt
taken_off (nabla A t) = Some tt
taken_off (implies A B) = Some tt
taken_off _ = None

-- the first of the names that are given, where one is left
abbrev pub first_label : List (List ℕ) → Label
first_label [] = auto
first_label (x ∷ xs) = given x

abbrev pub others : List (List ℕ) → List (List ℕ)
others [] = []
others (x ∷ xs) = xs

-- AS LONG AS THERE IS SOMETHING TO TAKE OFF THE CONCLUSION it is taken off: the names that are left then, and the goal
pub data Introduced (D : Declarations) : List (List ℕ) → Sequent → List (List ℕ) → Sequent → Type 0 where
  none : {xs : List (List ℕ)} {s : Sequent} → IsKept (form_of s.conclusion) → Introduced D xs s xs s
  variable : {xs ys : List (List ℕ)} {s v u : Sequent} {A : Ty} {t G : Read} → form_of s.conclusion ≡ for_all A t → Taken D s s.conclusion A t G v
      → Introduced D xs (proving G v) ys u → Introduced D xs s ys u
  constant : {xs ys : List (List ℕ)} {s u : Sequent} {A : Ty} {t : Read} {n : ℕ} → form_of s.conclusion ≡ nabla A t → IsLeast (MayName s s.conclusion A) n
      → Introduced D xs (proving (instance t (name_term (record { number = n; type = A }))) s) ys u → Introduced D xs s ys u
  hypothesis : {xs ys : List (List ℕ)} {s u : Sequent} {A B : Read} (name : List ℕ) (v : Sequent) → form_of s.conclusion ≡ implies A B → Names (first_label xs) s name v
      → Introduced D (others xs) (proving B (assuming name A v)) ys u → Introduced D xs s ys u

-- IT CAN'T BE, since a new hypothesis gets no name
pub data Unnamed (D : Declarations) : List (List ℕ) → Sequent → Type 0 where
  variable : {xs : List (List ℕ)} {s v : Sequent} {A : Ty} {t G : Read} → form_of s.conclusion ≡ for_all A t → Taken D s s.conclusion A t G v
      → Unnamed D xs (proving G v) → Unnamed D xs s
  constant : {xs : List (List ℕ)} {s : Sequent} {A : Ty} {t : Read} {n : ℕ} → form_of s.conclusion ≡ nabla A t → IsLeast (MayName s s.conclusion A) n
      → Unnamed D xs (proving (instance t (name_term (record { number = n; type = A }))) s) → Unnamed D xs s
  hypothesis : {xs : List (List ℕ)} {s : Sequent} {A B : Read} (name : List ℕ) (v : Sequent) → form_of s.conclusion ≡ implies A B → Names (first_label xs) s name v
      → Unnamed D (others xs) (proving B (assuming name A v)) → Unnamed D xs s
  unnamed : {xs : List (List ℕ)} {s : Sequent} {A B : Read} → form_of s.conclusion ≡ implies A B → NoName (first_label xs) s → Unnamed D xs s
