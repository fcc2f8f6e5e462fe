-- Forms all of whose binders have the hint x: put in for a variable, such a term is what the variable's own form becomes.
use Rattle.std.proofs.Common.{◌≡◌, ℕ, suc, List, [], ◌∷◌, map, Option, Some, None, option_map, refl, sym, ◌∙◌, ap}
use Rattle.ab_term.specs.Types.{Ty}
use Rattle.ab_term.specs.Terms.{Nominal, Variable, nominal, variable, Term}
use Rattle.ab_term.specs.Typing.{Signature}
use Rattle.ab_term.specs.Expansion.{expansion_of}
use Rattle.ab_term.specs.Translation.{translate, forget}
use Rattle.ab_term.specs.Variables.{Substitution, value_in, image, IsTyped}
use Rattle.ab_term.specs.Sameness.{same_number}
use Rattle.ab_term.specs.Abstraction.{name_terms, given_names}
use Rattle.ab_term.proofs.Hinted.{hinted-names}
use Rattle.ab_term.proofs.ImageTranslations.{translate-image_by}
use Rattle.ab_term.proofs.OwnExpansion.{image_by-own}
use Rattle.ab_term.proofs.Raising.{forget-given}
use Rattle.ab_term.proofs.Translations.{translate-expansion, translate-expansion_of}
use Rattle.ab_unifiers.specs.Replacements.{Cell}
use Rattle.ab_unifiers.specs.Clauses.{Each, numbered, name_term}
use Rattle.ab_unifiers.specs.Alternatives.{made_terms}
use Rattle.ab_unifiers.proofs.Past.{bare, bare_own, bare_typed, own}

module _ {Hint : Type 0} (x : Hint) where
  abbrev pub dressed : Term ℕ (Unit {0}) → Term ℕ Hint
  dressed = translate (λ v. v) (λ y. x)

  abbrev pub IsDressed : Term ℕ Hint → Type 0
  IsDressed t = dressed (forget t) ≡ t

  pub name_dressed : (a : Nominal) → IsDressed (name_term x a)
  name_dressed a =
      ap dressed (translate-expansion (λ v. v) (λ y. tt) x a.type (nominal a))
      ∙ translate-expansion (λ v. v) (λ y. x) tt a.type (nominal a)

  pub given_dressed : (z : Variable ℕ) (ns : List Nominal) (A : Ty) → IsDressed (given_names x z ns A)
  given_dressed z ns A =
      ap dressed (forget-given x z ns A)
      ∙ translate-expansion_of (λ v. v) (λ y. x) tt A (variable z) (name_terms tt z.type (map nominal ns))
      ∙ ap (expansion_of x A (variable z)) (hinted-names x z.type (map nominal ns))

  pub made_dressed : (n m : ℕ) (ns : List Nominal) (cs : List (Cell Hint)) → Each (λ y t. IsDressed t) (numbered n cs) (made_terms x m ns cs)
  made_dressed n m ns [] = tt
  made_dressed n m ns (c ∷ cs) = (given_dressed _ ns c.type, made_dressed (suc n) (suc m) ns cs)

  pub names_dressed : (R : Variable ℕ → Term ℕ Hint → Type 0) (ys : List (Variable ℕ)) (ns : List Nominal) → Each R ys (map (name_term x) ns) → Each (λ y t. IsDressed t) ys (map (name_term x) ns)
  names_dressed R [] [] e = tt
  names_dressed R [] (a ∷ ns) e = absurd e
  names_dressed R (y ∷ ys) [] e = absurd e
  names_dressed R (y ∷ ys) (a ∷ ns) e = (name_dressed a, names_dressed R ys ns e.1)

  module _ (sg : Signature) (s : Substitution ℕ Hint) (typed : IsTyped sg s) (all : (y : Variable ℕ) (t : Term ℕ Hint) → value_in same_number s y ≡ Some t → IsDressed t) where
    same_value : (y : Variable ℕ) → option_map dressed (bare s y) ≡ value_in same_number s y
    same_value y = go (value_in same_number s y) refl
      where
        go : (o : Option (Term ℕ Hint)) → value_in same_number s y ≡ o → option_map dressed (option_map forget o) ≡ o
        go None e = refl
        go (Some t) e = ap Some (all y t e)

    -- the variable's own form becomes what is put in for it
    pub own_becomes : (y : Variable ℕ) (t : Term ℕ Hint) → value_in same_number s y ≡ Some t → image same_number s (own x y) ≡ t
    own_becomes y t e =
        ap (image same_number s) (sym (translate-expansion (λ v. v) (λ h. x) tt y.type (variable y)))
        ∙ sym (translate-image_by (λ v. v) (λ h. x) (bare s) (value_in same_number s) same_value (bare_own y))
        ∙ ap dressed (image_by-own sg ℕ (bare s) (bare_typed sg s typed) y (forget t) (ap (option_map forget) e))
        ∙ all y t e
