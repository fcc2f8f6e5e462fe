-- A row of variables that become new variables over constants: what must be put in for the new ones.
use Rattle.std.proofs.Common.{◌≡◌, ℕ, suc, List, [], ◌∷◌, map, true, Option, Some, None, option_map, refl, sym, ◌∙◌, ap, subst}
use Rattle.ab_term.specs.Types.{Ty}
use Rattle.ab_term.specs.Terms.{Nominal, Variable, nominal, variable, Term, no_terms}
use Rattle.ab_term.specs.Typing.{Signature, HasType}
use Rattle.ab_term.specs.Translation.{forget, EqualPastHints}
use Rattle.ab_term.specs.Expansion.{expansion}
use Rattle.ab_term.specs.Variables.{Substitution, variables, value_in, image, image_by, IsTyped}
use Rattle.ab_term.proofs.Images.{IsTypedMap, image_by_typed}
use Rattle.ab_term.proofs.Compositions.{then_by, image_composed}
use Rattle.ab_term.proofs.Expansions.{expansion_typed}
use Rattle.ab_term.proofs.OwnExpansion.{image_by-own, image_by-expansion_of}
use Rattle.ab_term.proofs.Translations.{translate_typed, translate-expansion}
use Rattle.ab_term.specs.Sameness.{same_number}
use Rattle.ab_term.specs.Abstraction.{abstracted, over, given_names}
use Rattle.ab_unifiers.specs.Replacements.{Cell, holds}
use Rattle.ab_term.proofs.Closing.{abstracted_typed, forget-abstracted}
use Rattle.ab_unifiers.specs.Clauses.{Each, name_term}
use Rattle.ab_unifiers.specs.Alternatives.{made_over, made_terms}
use Rattle.ab_unifiers.proofs.Past.{Bare, Map, bare_own, bare, forget-image, bare_typed, maps_agree}
use Rattle.ab_term.proofs.PastHints.{variables-forget}
use Rattle.ab_term.proofs.Raising.{new_over, image-given, forget-given}
use Rattle.ab_term.proofs.Hinted.{named_over, given_typed}

-- one and then the other do what a third does, on this variable
abbrev pub Same : Map → Map → Map → Variable ℕ → Type 0
Same a u s y = image_by u (image_by a (bare_own y)) ≡ image_by s (bare_own y)

module _ (sg : Signature) {Hint : Type 0} where
  -- a term's image under one and then the other is that under the third
  pub two_agree : (a u s : Substitution ℕ Hint) → IsTyped sg a → IsTyped sg u → IsTyped sg s → {G : List Ty} {t : Term ℕ Hint} {A : Ty} → HasType sg G t A
      → ((y : Variable ℕ) → holds (variables t) y ≡ true → Same (bare a) (bare u) (bare s) y)
      → EqualPastHints (image same_number u (image same_number a t)) (image same_number s t)
  two_agree a u s p q r {t = t} d same =
      let bare_d = translate_typed sg (λ v. v) (λ h. tt) d in
      forget-image u (image same_number a t)
      ∙ ap (image_by (bare u)) (forget-image a t)
      ∙ image_composed sg ℕ (Unit {0}) (bare a) (bare u) (bare_typed sg a p) (bare_typed sg u q) bare_d
      ∙ maps_agree sg (λ y. then_by (bare u) y (bare a y)) (bare s) both (bare_typed sg s r) bare_d (λ y e.
      sym (image_composed sg ℕ (Unit {0}) (bare a) (bare u) (bare_typed sg a p) (bare_typed sg u q) (expansion_typed sg tt y.type [] (variable y) refl))
      ∙ same y (ap (λ l. holds l y) (sym (variables-forget t)) ∙ e))
      ∙ sym (forget-image s t)
    where
      through : (y : Variable ℕ) (o : Option Bare) → bare a y ≡ o → (v : Bare) → then_by (bare u) y o ≡ Some v → HasType sg [] v y.type
      through y None e v f = bare_typed sg u q y v f
      through y (Some w) e v f = let one : image_by (bare u) w ≡ v = cc in subst (λ k. HasType sg [] k y.type) one (image_by_typed sg ℕ (Unit {0}) (bare u) (bare_typed sg u q) (bare_typed sg a p y w e))

      both : IsTypedMap sg (λ y. then_by (bare u) y (bare a y))
      both y v f = through y (bare a y) refl v f

  -- what a map puts in for a variable's own form
  pub own_value : (s : Substitution ℕ Hint) → IsTyped sg s → (y : Variable ℕ) (t : Term ℕ Hint) → value_in same_number s y ≡ Some t → image_by (bare s) (bare_own y) ≡ forget t
  own_value s p y t e = image_by-own sg ℕ (bare s) (bare_typed sg s p) y (forget t) (ap (option_map forget) e)

module _ (sg : Signature) {Hint : Type 0} (x : Hint) where
  -- what is put in for the new variables: the terms, abstracted over the constants
  abbrev pub lifted : List Nominal → List (Cell Hint) → List (Term ℕ Hint) → List (Term ℕ Hint)
  lifted ns [] us = []
  lifted ns (c ∷ cs) [] = []
  lifted ns (c ∷ cs) (u ∷ us) = abstracted x (over ns c.type) (map nominal ns) u ∷ lifted ns cs us

  abbrev pub OfCells : List (Cell Hint) → List (Term ℕ Hint) → Type 0
  OfCells = Each (λ c u. HasType sg [] u c.type)

  pub lifted_typed : (n : ℕ) (ns : List Nominal) (cs : List (Cell Hint)) (us : List (Term ℕ Hint)) → OfCells cs us → Each (λ z v. HasType sg [] v z.type) (made_over x n ns cs) (lifted ns cs us)
  lifted_typed n ns [] [] e = tt
  lifted_typed n ns [] (u ∷ us) e = absurd e
  lifted_typed n ns (c ∷ cs) [] e = absurd e
  lifted_typed n ns (c ∷ cs) (u ∷ us) e = (abstracted_typed sg x (named_over sg [] ns c.type) e.0, lifted_typed (suc n) ns cs us e.1)

  pub made_terms_typed : (n : ℕ) (ns : List Nominal) (cs : List (Cell Hint)) → OfCells cs (made_terms x n ns cs)
  made_terms_typed n ns [] = tt
  made_terms_typed n ns (c ∷ cs) = (given_typed sg x [] (new_over n ns c.type) ns c.type refl, made_terms_typed (suc n) ns cs)

  -- the new variables, given the constants, become the terms
  module _ (a u : Substitution ℕ Hint) (a_typed : IsTyped sg a) (u_typed : IsTyped sg u) (ns : List Nominal) where
    pub lifted_each : (n : ℕ) (cs : List (Cell Hint)) (ys : List (Variable ℕ)) (us : List (Term ℕ Hint)) → OfCells cs us
        → Each (λ y t. value_in same_number a y ≡ Some t) ys (made_terms x n ns cs)
        → Each (λ z v. value_in same_number u z ≡ Some v) (made_over x n ns cs) (lifted ns cs us)
        → Each (λ y t. image_by (bare u) (image_by (bare a) (bare_own y)) ≡ forget t) ys us
    lifted_each n [] [] [] d e f = tt
    lifted_each n [] [] (u1 ∷ us) d e f = absurd d
    lifted_each n [] (y ∷ ys) us d e f = absurd e
    lifted_each n (c ∷ cs) ys [] d e f = absurd d
    lifted_each n (c ∷ cs) [] (u1 ∷ us) d e f = absurd e
    lifted_each n (c ∷ cs) (y ∷ ys) (u1 ∷ us) d e f = (
      ap (image_by (bare u)) (own_value sg a a_typed y (given_names x (new_over n ns c.type) ns c.type) e.0 ∙ forget-given x (new_over n ns c.type) ns c.type)
          ∙ image-given sg (bare u) (bare_typed sg u u_typed) n ns c.type (forget u1) (translate_typed sg (λ v. v) (λ h. tt) d.0) (ap (option_map forget) f.0 ∙ ap Some (forget-abstracted x (over ns c.type) (map nominal ns) u1)),
      lifted_each (suc n) cs ys us d.1 e.1 f.1,
    )

  -- a constant's form stays
  pub name_stays : (u : Substitution ℕ Hint) → IsTyped sg u → (a : Nominal) → image_by (bare u) (forget (name_term x a)) ≡ forget (name_term x a)
  name_stays u p a =
      let bare_name : forget (name_term x a) ≡ expansion tt a.type (nominal a) = translate-expansion (λ v. v) (λ h. tt) x a.type (nominal a) in
      ap (image_by (bare u)) bare_name ∙ image_by-expansion_of sg ℕ (Unit {0}) (bare u) (bare_typed sg u p) tt a.type (nominal a) no_terms tt ∙ sym bare_name
