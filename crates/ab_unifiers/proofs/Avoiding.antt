-- A variable that doesn't stand in a term: what is put together of such terms hasn't got it either.
use Rattle.std.proofs.Common.{◌≡◌, ℕ, zero, ◌⊎◌, inl, inr, List, [], ◌∷◌, ◌++◌, Bool, true, false, cond, ◌||◌, not, Option, Some, None, refl, sym, ◌∙◌, ap}
use Rattle.std.proofs.lemmas.Bool.{false≢true, or_parts, false_from_ne_true}
use Rattle.ab_term.specs.Types.{Ty, kind, arrow}
use Rattle.ab_term.specs.Terms.{Variable, Head, constant, logical, nominal, variable, index, Term, lam, spine, Terms, no_terms, term}
use Rattle.ab_term.specs.Variables.{variables_of_head, variables, variables_of_all, put_for, put_at, image_by, value_in, image, image_all}
use Rattle.ab_term.specs.Sameness.{same_numbered, same_number}
use Rattle.ab_term.specs.Abstraction.{abstracted, name_terms, is_name}
use Rattle.ab_term.proofs.Same.{same_numbered-Decides}
use Rattle.ab_term.proofs.Standing.{HeadHas, Has, AllHave, expansion_of_has, image_by_has}
use Rattle.ab_term.proofs.ClosingImages.{close_has}
use Rattle.ab_unifiers.specs.Patterns.{value, applied}
use Rattle.ab_unifiers.specs.Replacements.{without, holds}
use Rattle.ab_unifiers.proofs.Agreeing.{holds_front, holds_behind}

pub not_held : (ys zs : List (Variable ℕ)) (y : Variable ℕ) → holds (ys ++ zs) y ≡ true → (holds ys y ≡ true) ⊎ (holds zs y ≡ true)
not_held [] zs y e = inr e
not_held (v ∷ vs) zs y e = go (same_numbered v y) (not_held vs zs y) e
  where
    go : (b : Bool) → (holds (vs ++ zs) y ≡ true → (holds vs y ≡ true) ⊎ (holds zs y ≡ true)) → (b || holds (vs ++ zs) y) ≡ true → ((b || holds vs y) ≡ true) ⊎ (holds zs y ≡ true)
    go true rest f = inl refl
    go false rest f = rest f

pub without_held : (z : Variable ℕ) (ys : List (Variable ℕ)) (y : Variable ℕ) → holds (without z ys) y ≡ true → holds ys y ≡ true
without_held z [] y e = e
without_held z (v ∷ vs) y e = go (same_numbered v z) (same_numbered v y) (without_held z vs y) e
  where
    go : (b c : Bool) → (holds (without z vs) y ≡ true → holds vs y ≡ true) → holds (cond (not b) (v ∷ without z vs) (without z vs)) y ≡ true → (same_numbered v y || holds vs y) ≡ true
    go true c rest f = right (same_numbered v y) (rest f)
      where
        right : (b : Bool) → holds vs y ≡ true → (b || holds vs y) ≡ true
        right true e = refl
        right false e = e
    go false c rest f = both (same_numbered v y) f rest
      where
        both : (b : Bool) → (b || holds (without z vs) y) ≡ true → (holds (without z vs) y ≡ true → holds vs y ≡ true) → (b || holds vs y) ≡ true
        both true g rest = refl
        both false g rest = rest g

-- the head isn't the variable
abbrev pub HeadAvoids : Variable ℕ → Head ℕ → Type 0
HeadAvoids y h = holds (variables_of_head h) y ≡ false

module _ {Hint : Type 0} (y : Variable ℕ) where
  abbrev pub Avoids : Term ℕ Hint → Type 0
  Avoids = Has (HeadAvoids y)

  abbrev pub AllAvoid : Terms ℕ Hint → Type 0
  AllAvoid = AllHave (HeadAvoids y)

  -- what f puts in hasn't got y
  abbrev pub Without : (Variable ℕ → Option (Term ℕ Hint)) → Type 0
  Without f = (z : Variable ℕ) (u : Term ℕ Hint) → f z ≡ Some u → Avoids u

head_has_avoids : (y : Variable ℕ) (h : Head ℕ) → HeadAvoids y h → HeadHas (HeadAvoids y) h
head_has_avoids y (constant c) e = e
head_has_avoids y (logical l) e = e
head_has_avoids y (nominal a) e = e
head_has_avoids y (variable z) e = e
head_has_avoids y (index i) e = tt

pub head_avoids : (y : Variable ℕ) (h : Head ℕ) → HeadHas (HeadAvoids y) h → HeadAvoids y h
head_avoids y (constant c) e = e
head_avoids y (logical l) e = e
head_avoids y (nominal a) e = e
head_avoids y (variable z) e = e
head_avoids y (index i) e = refl

name_avoids : (y : Variable ℕ) (h : Head ℕ) → is_name h ≡ true → HeadHas (HeadAvoids y) h
name_avoids y (constant c) e = refl
name_avoids y (logical l) e = refl
name_avoids y (nominal a) e = refl
name_avoids y (variable z) e = absurd (false≢true e)
name_avoids y (index i) e = tt

abbrev pub AreNames : List (Head ℕ) → Type 0
AreNames [] = Unit {0}
AreNames (h ∷ hs) = (is_name h ≡ true) × AreNames hs

front_not : (y : Variable ℕ) (vs ws : List (Variable ℕ)) → holds (vs ++ ws) y ≡ false → holds vs y ≡ false
front_not y vs ws e = false_from_ne_true (holds vs y) (λ f. false≢true (sym e ∙ holds_front vs ws y f))

behind_not : (y : Variable ℕ) (vs ws : List (Variable ℕ)) → holds (vs ++ ws) y ≡ false → holds ws y ≡ false
behind_not y vs ws e = false_from_ne_true (holds ws y) (λ f. false≢true (sym e ∙ holds_behind vs ws y f))

module _ {Hint : Type 0} (y : Variable ℕ) where
  pub abstracted_avoids : (x : Hint) (A : Ty) (hs : List (Head ℕ)) (t : Term ℕ Hint) → Avoids y t → Avoids y (abstracted x A hs t)
  abstracted_avoids x A [] t a = a
  abstracted_avoids x (kind k) (h ∷ hs) t a = a
  abstracted_avoids x (arrow A B) (h ∷ hs) t a = close_has (HeadAvoids y) (HeadAvoids y) zero h (λ g e p. p) (abstracted x B hs t) (abstracted_avoids x B hs t a)

  pub image_avoids : (f : Variable ℕ → Option (Term ℕ Hint)) → Without y f → (t : Term ℕ Hint) → Avoids y t → Avoids y (image_by f t)
  image_avoids f w t a =
      image_by_has (HeadAvoids y) (HeadAvoids y) f
      (record { constants = λ c p. p; logicals = λ l p. p; nominals = λ n p. p; stays = λ z e p. p; values = λ z u e p. w z u e }) t a

  name_terms_avoid : (x : Hint) (A : Ty) (hs : List (Head ℕ)) → AreNames hs → AllAvoid y (name_terms x A hs)
  name_terms_avoid x A [] n = tt
  name_terms_avoid x (kind c) (h ∷ hs) n = tt
  name_terms_avoid x (arrow A B) (h ∷ hs) n = (expansion_of_has (HeadAvoids y) x A h no_terms (name_avoids y h n.0) tt, name_terms_avoid x B hs n.1)

  pub value_avoids : (x : Hint) (z w : Variable ℕ) (gs hs : List (Head ℕ)) → AreNames hs → same_numbered w y ≡ false → Avoids y (value x z gs (applied x w hs))
  value_avoids x z w gs hs n e = abstracted_avoids x z.type gs (applied x w hs) (ap (λ b. b || false) e, name_terms_avoid x w.type hs n)

  mutual
    -- the test for occurrence
    pub avoids_if : (t : Term ℕ Hint) → holds (variables t) y ≡ false → Avoids y t
    avoids_if (lam A x t) e = avoids_if t e
    avoids_if (spine h ts) e = (head_has_avoids y h (front_not y (variables_of_head h) (variables_of_all ts) e), all_avoid_if ts (behind_not y (variables_of_head h) (variables_of_all ts) e))

    all_avoid_if : (ts : Terms ℕ Hint) → holds (variables_of_all ts) y ≡ false → AllAvoid y ts
    all_avoid_if no_terms e = tt
    all_avoid_if (term t ts) e = (avoids_if t (front_not y (variables t) (variables_of_all ts) e), all_avoid_if ts (behind_not y (variables t) (variables_of_all ts) e))

  other_value : (v : Term ℕ Hint) (z : Variable ℕ) → HeadAvoids y (variable z) → value_in same_number ((y, v) ∷ []) z ≡ None
  other_value v z a = go (same_numbered y z) refl
    where
      go : (b : Bool) → same_numbered y z ≡ b → cond b (Some v) None ≡ None
      go true e = absurd (let parts = or_parts (same_numbered z y) false a in false≢true (sym parts.0 ∙ (same_numbered-Decides z y).1 (sym ((same_numbered-Decides y z).0 e))))
      go false e = refl

  put_at_avoided : (v : Term ℕ Hint) (h : Head ℕ) (ts : Terms ℕ Hint) → HeadHas (HeadAvoids y) h → put_at (value_in same_number ((y, v) ∷ [])) h ts ≡ spine h ts
  put_at_avoided v (constant c) ts a = refl
  put_at_avoided v (logical l) ts a = refl
  put_at_avoided v (nominal n) ts a = refl
  put_at_avoided v (variable z) ts a = ap (λ o. put_for z o ts) (other_value v z a)
  put_at_avoided v (index i) ts a = refl

  mutual
    -- what is put in for y doesn't come in
    pub image_avoided : (v : Term ℕ Hint) (t : Term ℕ Hint) → Avoids y t → image same_number ((y, v) ∷ []) t ≡ t
    image_avoided v (lam A x t) a = ap (lam A x) (image_avoided v t a)
    image_avoided v (spine h ts) a = put_at_avoided v h (image_all same_number ((y, v) ∷ []) ts) a.0 ∙ ap (spine h) (image_all_avoided v ts a.1)

    image_all_avoided : (v : Term ℕ Hint) (ts : Terms ℕ Hint) → AllAvoid y ts → image_all same_number ((y, v) ∷ []) ts ≡ ts
    image_all_avoided v no_terms a = refl
    image_all_avoided v (term t ts) a = ap (λ s. term s (image_all same_number ((y, v) ∷ []) ts)) (image_avoided v t a.0) ∙ ap (term t) (image_all_avoided v ts a.1)
