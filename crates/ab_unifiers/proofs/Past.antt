-- Substitutions past hints, as functions from variables to terms without hints.
use Rattle.std.proofs.Common.{◌≡◌, ℕ, List, true, Option, Some, None, refl, sym, ◌∙◌, ap}
use Rattle.ab_term.specs.Types.{Ty, kind}
use Rattle.ab_term.specs.Terms.{Variable, Head, constant, logical, nominal, variable, index, Term, lam, Terms, no_terms, term}
use Rattle.ab_term.specs.Typing.{Signature, head_type, HasType, TakeType, typed_lam, typed_spine, take_none, take_term}
use Rattle.ab_term.specs.Substitution.{reduce}
use Rattle.ab_term.specs.Expansion.{expansion}
use Rattle.ab_term.specs.Translation.{forget, EqualPastHints}
use Rattle.ab_term.specs.Variables.{put_for, put_at, image_by, image_all_by, Substitution, variables, value_in, image, IsTyped}
use Rattle.ab_term.proofs.Images.{IsTypedMap, image_all_by_typed}
use Rattle.ab_term.proofs.PastHints as hints
use Rattle.ab_term.proofs.PastHints.{variables-forget}
use Rattle.ab_term.proofs.Translations.{translate-expansion, translate_typed}
use Rattle.ab_term.proofs.Compositions.{map_typed}
use Rattle.ab_term.proofs.Expansions.{reduce-expansion_of}
use Rattle.ab_term.proofs.OwnExpansion.{image_by-own, image_by-expansion_of}
use Rattle.ab_term.specs.Sameness.{same_number}
use Rattle.ab_unifiers.specs.Replacements.{holds}
use Rattle.ab_unifiers.proofs.Agreeing.{image_agrees}

abbrev pub Bare : Type 0
Bare = Term ℕ (Unit {0})

abbrev pub Map : Type 0
Map = Variable ℕ → Option Bare

abbrev pub bare_own : Variable ℕ → Bare
bare_own y = expansion tt y.type (variable y)

-- a variable as a term
abbrev pub own : {Hint : Type 0} → Hint → Variable ℕ → Term ℕ Hint
own x y = expansion x y.type (variable y)

module _ {Hint : Type 0} where
  abbrev pub bare : Substitution ℕ Hint → Map
  bare s = hints.bare (value_in same_number s)

  pub forget-image : (s : Substitution ℕ Hint) (t : Term ℕ Hint) → forget (image same_number s t) ≡ image_by (bare s) (forget t)
  forget-image s t = hints.forget-image (value_in same_number s) t

  pub bare_typed : (sg : Signature) (s : Substitution ℕ Hint) → IsTyped sg s → IsTypedMap sg (bare s)
  bare_typed sg s typed = hints.bare_typed sg (value_in same_number s) (map_typed sg same_number s typed)

  pub forget-own : (x : Hint) (y : Variable ℕ) → forget (own x y) ≡ bare_own y
  forget-own x y = translate-expansion (λ v. v) (λ h. tt) x y.type (variable y)

  -- both put in the same for each of the variables
  abbrev pub AgreeOn : Hint → List (Variable ℕ) → Substitution ℕ Hint → Substitution ℕ Hint → Type 0
  AgreeOn x ys s r = (y : Variable ℕ) → holds ys y ≡ true → EqualPastHints (image same_number s (own x y)) (image same_number r (own x y))

-- what a map puts in for every variable, itself among what stays
abbrev pub total : Map → Map
total f y = Some (image_by f (bare_own y))

module _ (sg : Signature) (f : Map) (typed : IsTypedMap sg f) where
  put_for_total : (y : Variable ℕ) (o : Option Bare) → f y ≡ o → (G : List Ty) (c : List ℕ) (ts : Terms ℕ (Unit {0})) → TakeType sg G ts y.type (kind c) → put_for y (total f y) ts ≡ put_for y o ts
  put_for_total y None e G c ts ds =
      ap (λ v. reduce y.type v ts) (image_by-expansion_of sg ℕ (Unit {0}) f typed tt y.type (variable y) no_terms e)
      ∙ reduce-expansion_of sg ℕ y.type G (variable y) no_terms ts c ds
  put_for_total y (Some u) e G c ts ds = ap (λ v. reduce y.type v ts) (image_by-own sg ℕ f typed y u e)

  put_at_total : (G : List Ty) (h : Head ℕ) (D : Ty) (ts : Terms ℕ (Unit {0})) (c : List ℕ) → head_type sg G h ≡ Some D → TakeType sg G ts D (kind c) → put_at (total f) h ts ≡ put_at f h ts
  put_at_total G (constant b) D ts c e ds = refl
  put_at_total G (logical l) D ts c e ds = refl
  put_at_total G (nominal a) D ts c e ds = refl
  put_at_total G (variable y) D ts c e ds = let same : D ≡ y.type = cc in put_for_total y (f y) refl G c ts (rw same at ds)
  put_at_total G (index i) D ts c e ds = refl

  mutual
    pub image_total : {G : List Ty} {t : Bare} {A : Ty} → HasType sg G t A → image_by (total f) t ≡ image_by f t
    image_total (typed_lam {A = A} {x = x} d) = ap (lam A x) (image_total d)
    image_total {G = G} (typed_spine {A = D} {h = h} {ts = ts} {k = c} e ds) =
        ap (put_at (total f) h) (image_all_total ds) ∙ put_at_total G h D (image_all_by f ts) c e (image_all_by_typed sg ℕ (Unit {0}) f typed ds)

    image_all_total : {G : List Ty} {ts : Terms ℕ (Unit {0})} {A B : Ty} → TakeType sg G ts A B → image_all_by (total f) ts ≡ image_all_by f ts
    image_all_total take_none = refl
    image_all_total (take_term {t = t} {ts = ts} d ds) = ap (λ s. term s (image_all_by (total f) ts)) (image_total d) ∙ ap (term (image_by f t)) (image_all_total ds)

-- maps that do the same on a term's variables do the same on the term
pub maps_agree : (sg : Signature) (f g : Map) → IsTypedMap sg f → IsTypedMap sg g → {G : List Ty} {t : Bare} {A : Ty} → HasType sg G t A
    → ((y : Variable ℕ) → holds (variables t) y ≡ true → image_by f (bare_own y) ≡ image_by g (bare_own y)) → image_by f t ≡ image_by g t
maps_agree sg f g p q {t = t} d a = sym (image_total sg f p d) ∙ image_agrees (total f) (total g) t (λ y e. ap Some (a y e)) ∙ image_total sg g q d

module _ (sg : Signature) {Hint : Type 0} (x : Hint) where
  bare_agree : (s r : Substitution ℕ Hint) (y : Variable ℕ) → EqualPastHints (image same_number s (own x y)) (image same_number r (own x y)) → image_by (bare s) (bare_own y) ≡ image_by (bare r) (bare_own y)
  bare_agree s r y e = ap (image_by (bare s)) (sym (forget-own x y)) ∙ sym (forget-image s (own x y)) ∙ e ∙ forget-image r (own x y) ∙ ap (image_by (bare r)) (forget-own x y)

  -- substitutions that agree on a term's variables give the same image
  pub images_agree : (s r : Substitution ℕ Hint) → IsTyped sg s → IsTyped sg r → (ys : List (Variable ℕ)) → AgreeOn x ys s r → {G : List Ty} {t : Term ℕ Hint} {A : Ty} → HasType sg G t A
      → ((y : Variable ℕ) → holds (variables t) y ≡ true → holds ys y ≡ true) → EqualPastHints (image same_number s t) (image same_number r t)
  images_agree s r p q ys a {t = t} d v =
      forget-image s t
      ∙ maps_agree sg (bare s) (bare r) (bare_typed sg s p) (bare_typed sg r q) (translate_typed sg (λ v. v) (λ h. tt) d) (λ y e. bare_agree s r y (a y (v y (ap (λ l. holds l y) (sym (variables-forget t)) ∙ e))))
      ∙ sym (forget-image r t)
