-- A new variable over constants: what is put in for it so that, given the constants, it is a certain term.
use Rattle.std.proofs.Common.{◌≡◌, ℕ, List, [], ◌∷◌, map, Option, Some, option_map, refl, sym, ◌∙◌, ap}
use Rattle.ab_term.specs.Types.{Ty}
use Rattle.ab_term.specs.Terms.{Nominal, Variable, nominal, variable, Term, no_terms, term}
use Rattle.ab_term.specs.Typing.{Signature, HasType}
use Rattle.ab_term.specs.Expansion.{expansion_of, expansion}
use Rattle.ab_term.specs.Translation.{forget, EqualPastHints}
use Rattle.ab_term.specs.Variables.{image_by, image_all_by, Substitution, value_in, image, IsTyped}
use Rattle.ab_term.specs.Sameness.{same_number}
use Rattle.ab_term.specs.Abstraction.{name_terms, abstracted, over, given_names}
use Rattle.ab_term.proofs.Images.{IsTypedMap}
use Rattle.ab_term.proofs.OwnExpansion.{own_by, image_by-expansion_of}
use Rattle.ab_term.proofs.Translations.{translate-expansion_of, translate_typed}
use Rattle.ab_term.proofs.Hinted.{name_terms_typed, named_over, forget-names}
use Rattle.ab_term.proofs.Abstracting.{reduce-abstracted}
use Rattle.ab_term.proofs.Closing.{forget-abstracted}
use Rattle.ab_term.proofs.Compositions.{map_typed}
use Rattle.ab_term.proofs.PastHints.{bare, bare_typed, forget-image}

-- the new variable with this number
abbrev pub new_over : ℕ → List Nominal → Ty → Variable ℕ
new_over n ns A = record { name = n; type = over ns A }

module _ (sg : Signature) (f : Variable ℕ → Option (Term ℕ (Unit {0}))) (typed : IsTypedMap sg f) where
  names_stay : (ns : List Nominal) (A : Ty) → image_all_by f (name_terms tt (over ns A) (map nominal ns)) ≡ name_terms tt (over ns A) (map nominal ns)
  names_stay [] A = refl
  names_stay (a ∷ ns) A =
      ap (λ t. term t (image_all_by f (name_terms tt (over ns A) (map nominal ns)))) (image_by-expansion_of sg ℕ (Unit {0}) f typed tt a.type (nominal a) no_terms tt)
      ∙ ap (term (expansion tt a.type (nominal a))) (names_stay ns A)

  -- the new variable, given the constants, becomes the term
  pub image-given : (n : ℕ) (ns : List Nominal) (A : Ty) (u : Term ℕ (Unit {0})) → HasType sg [] u A → f (new_over n ns A) ≡ Some (abstracted tt (over ns A) (map nominal ns) u) → image_by f (given_names tt (new_over n ns A) ns A) ≡ u
  image-given n ns A u d e =
      own_by sg ℕ f typed (new_over n ns A) (abstracted tt (over ns A) (map nominal ns) u) e A [] (name_terms tt (over ns A) (map nominal ns)) (name_terms tt (over ns A) (map nominal ns)) (name_terms_typed sg tt (named_over sg [] ns A)) (names_stay ns A)
      ∙ reduce-abstracted sg u (named_over sg [] ns A) d

module _ {Hint : Type 0} (x : Hint) where
  pub forget-given : (z : Variable ℕ) (ns : List Nominal) (A : Ty) → forget (given_names x z ns A) ≡ given_names tt z ns A
  forget-given z ns A = translate-expansion_of (λ v. v) (λ h. tt) x A (variable z) (name_terms x z.type (map nominal ns)) ∙ ap (expansion_of tt A (variable z)) (forget-names x z.type (map nominal ns))

module _ (sg : Signature) {Hint : Type 0} (x : Hint) (s : Substitution ℕ Hint) (typed : IsTyped sg s) where
  -- the same with hints, past them
  pub image-raised : (y : Variable ℕ) (ns : List Nominal) (A : Ty) (u : Term ℕ Hint) → y.type ≡ over ns A → HasType sg [] u A → value_in same_number s y ≡ Some (abstracted x (over ns A) (map nominal ns) u) → EqualPastHints (image same_number s (given_names x y ns A)) u
  image-raised y ns A u e d v =
      let f = value_in same_number s in
      let z : Variable ℕ = new_over y.name ns A in
      let same : y ≡ z = λ i. record { name = y.name; type = e i } in
      forget-image f (given_names x y ns A)
      ∙ ap (image_by (bare f)) (forget-given x y ns A ∙ ap (λ w. given_names tt w ns A) same)
      ∙ image-given sg (bare f) (bare_typed sg f (map_typed sg same_number s typed)) y.name ns A (forget u) (translate_typed sg (λ v. v) (λ h. tt) d)
      (ap (bare f) (sym same) ∙ ap (option_map forget) v ∙ ap Some (forget-abstracted x (over ns A) (map nominal ns) u))
