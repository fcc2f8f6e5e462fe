-- WHAT A SUBJECT IS: a defined atom, or a judgement with its rules; and by what each of its ways is one.
use Rattle.std.proofs.Common.{◌≡◌, ℕ, List, map, Option, Some, None, refl, sym, ◌∙◌, ap, subst}
use Rattle.std.specs.Prelude.{Contains, slice_get}
use Rattle.std.specs.Option.{option_map}
use Rattle.std.proofs.lemmas.List.Elements.{Contains-get_or}
use Rattle.std.proofs.lemmas.Option.{get_or_from_slice_get, slice_get_within, slice_get-map}
use Rattle.ab_term.specs.Terms.{Read}
use Rattle.ab_formulas.specs.Declarations.{Declarations}
use Rattle.ab_formulas.specs.Programs.{program_in}
use Rattle.ab_theory.specs.Atoms.{Defined, defined_atom}
use Rattle.ab_theory.specs.Judgements.{Judgement, as_judgement}
use Rattle.ab_theory.specs.SpecRules.{SpecRule, rules_of}
use Rattle.ab_theory.specs.Subjects.{Subject, an_atom, a_judgement, with_rules, atom_or, subject_of}

-- the formula says this subject
abbrev pub IsSubject : Declarations → Read → Subject → Type 0
IsSubject D F (an_atom d) = defined_atom D F ≡ Some d
IsSubject D F (a_judgement j rs) = (as_judgement F ≡ Some j) × (rules_of (program_in D) j ≡ Some rs)

module _ (D : Declarations) (F : Read) where
  by_rules : (x : Subject) (j : Judgement) → as_judgement F ≡ Some j → (o : Option (List SpecRule)) → rules_of (program_in D) j ≡ o → option_map (a_judgement j) o ≡ Some x → IsSubject D F x
  by_rules x j is None e h = absurd (cc)
  by_rules x j is (Some rs) e h = let same : a_judgement j rs ≡ x = cc in subst (IsSubject D F) same (is, e)

  by_judgement : (x : Subject) (o : Option Judgement) → as_judgement F ≡ o → with_rules D o ≡ Some x → IsSubject D F x
  by_judgement x None e h = absurd (cc)
  by_judgement x (Some j) e h = by_rules x j e (rules_of (program_in D) j) refl h

  by_atom : (x : Subject) (o : Option Defined) → defined_atom D F ≡ o → atom_or o (with_rules D (as_judgement F)) ≡ Some x → IsSubject D F x
  by_atom x None e h = by_judgement x (as_judgement F) refl h
  by_atom x (Some d) e h = let same : an_atom d ≡ x = cc in subst (IsSubject D F) same e

  pub subject_is : (x : Subject) → subject_of D F ≡ Some x → IsSubject D F x
  subject_is x h = by_atom x (defined_atom D F) refl h

-- A DEFINED ATOM IS A SUBJECT
pub atom_subject : (D : Declarations) (F : Read) (d : Defined) → defined_atom D F ≡ Some d → subject_of D F ≡ Some (an_atom d)
atom_subject D F d e = ap (λ o. atom_or o (with_rules D (as_judgement F))) e

-- what stands at a place of a list that is made one by one

pub made_there : {A B : Type 0} (f : A → B) (xs : List A) (i : ℕ) (x : A) → slice_get xs i ≡ Some x → slice_get (map f xs) i ≡ Some (f x)
made_there f xs i x e = slice_get-map f xs i ∙ ap (option_map f) e

pub made_of : {A B : Type 0} (f : A → B) (xs : List A) (i : ℕ) (y : B) → slice_get (map f xs) i ≡ Some y → (x : A) × (slice_get xs i ≡ Some x) × (f x ≡ y)
made_of {A = A} f xs i y e = go (slice_get xs i) refl (sym (slice_get-map f xs i) ∙ e)
  where
    go : (o : Option A) → slice_get xs i ≡ o → option_map f o ≡ Some y → (x : A) × (slice_get xs i ≡ Some x) × (f x ≡ y)
    go None q h = absurd (cc)
    go (Some x) q h = (x, q, cc)

pub listed_at : {A : Type 0} (xs : List A) (i : ℕ) (x : A) → slice_get xs i ≡ Some x → Contains xs x
listed_at xs i x e = subst (Contains xs) (get_or_from_slice_get xs i x x e) (Contains-get_or xs i x (slice_get_within xs i x e))
