-- The heads of an expression whose names are resolved, and of terms.
use Rattle.std.specs.Prelude.{◌≡◌, ℕ, List, Some}
use Rattle.ab_term.specs.Logical.{Logical, universal, existential, nabla, star, at_sign, plus, hash}
use Rattle.ab_term.specs.Terms.{Head, logical, nominal, variable, Term, lam, spine, Terms, no_terms, term}
use Rattle.ab_term.specs.Beta.{atom, abstraction, application}
use Rattle.ab_term.specs.Types.{Ty}
use Rattle.ab_term.specs.Typing.{Signature, head_type}
use Rattle.ab_meaning.specs.ResolvedNames.{Name, Resolved, bound, known, free, apply, behind, abs, equal, bind}
use Rattle.ab_meaning.specs.Types.{PropFree}
use Rattle.ab_meaning.specs.Readings.{Raw, Making}

-- each head has the type with which it is known, whatever names are bound around it
abbrev pub HeadsFit : Signature → Resolved → Type 0
HeadsFit sg (bound i) = Unit {0}
HeadsFit sg (known h A) = (G : List Ty) → head_type sg G h ≡ Some A
HeadsFit sg (free x p) = Unit {0}
HeadsFit sg (apply e f) = HeadsFit sg e × HeadsFit sg f
HeadsFit sg (behind e f) = HeadsFit sg e × HeadsFit sg f
HeadsFit sg (abs x p e) = HeadsFit sg e
HeadsFit sg (equal e f) = HeadsFit sg e × HeadsFit sg f
HeadsFit sg (bind q x p w e) = HeadsFit sg e

-- what a free name stands for, given a type, has that type
abbrev pub MakesTyped : Signature → Making → Type 0
MakesTyped sg made = (x : Name) (A : Ty) (G : List Ty) → head_type sg G (made x A) ≡ Some A

-- the fact holds of each head of the term
module _ (P : Head ℕ → Type 0) where
  abbrev mutual
    pub AreHeads : Term ℕ (List ℕ) → Type 0
    AreHeads (lam A x t) = AreHeads t
    AreHeads (spine h ts) = P h × AreAllHeads ts

    pub AreAllHeads : Terms ℕ (List ℕ) → Type 0
    AreAllHeads no_terms = Unit {0}
    AreAllHeads (term t ts) = AreHeads t × AreAllHeads ts

  abbrev pub AreRawHeads : Raw → Type 0
  AreRawHeads (atom h) = P h
  AreRawHeads (abstraction A x t) = AreRawHeads t
  AreRawHeads (application t u) = AreRawHeads t × AreRawHeads u

-- the fact holds of each known head, and free names are allowed or not
module _ (P : Head ℕ → Type 0) (FreeNames : Type 0) where
  abbrev pub KnownAre : Resolved → Type 0
  KnownAre (bound i) = Unit {0}
  KnownAre (known h A) = P h
  KnownAre (free x p) = FreeNames
  KnownAre (apply e f) = KnownAre e × KnownAre f
  KnownAre (behind e f) = KnownAre e × KnownAre f
  KnownAre (abs x p e) = KnownAre e
  KnownAre (equal e f) = KnownAre e × KnownAre f
  KnownAre (bind q x p w e) = KnownAre e

-- no size mark, and no variable nor quantifier whose type holds `prop`
abbrev pub IsOrdinaryConstant : Logical → Type 0
IsOrdinaryConstant (universal A) = PropFree A
IsOrdinaryConstant (existential A) = PropFree A
IsOrdinaryConstant (nabla A) = PropFree A
IsOrdinaryConstant (star i) = ⊥
IsOrdinaryConstant (at_sign i) = ⊥
IsOrdinaryConstant (plus i) = ⊥
IsOrdinaryConstant (hash i) = ⊥
IsOrdinaryConstant _ = Unit {0}

abbrev pub IsOrdinary : Head ℕ → Type 0
IsOrdinary (logical l) = IsOrdinaryConstant l
IsOrdinary (variable x) = PropFree x.type
IsOrdinary _ = Unit {0}

-- neither a variable nor a nominal constant
abbrev pub IsFixed : Head ℕ → Type 0
IsFixed (variable x) = ⊥
IsFixed (nominal a) = ⊥
IsFixed _ = Unit {0}
