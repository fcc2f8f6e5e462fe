-- A GUESS FOR SOME VARIABLES ALONE, what it has for the others put in before: what is read off in turn is so still.
use Rattle.std.proofs.Common.{◌≡◌, ℕ, List, [], ◌∷◌, codes, Bool, true, false, cond, Option, Some, None, refl, sym, ◌∙◌, ap}
use Rattle.std.proofs.lemmas.Bool.{false≢true, false_from_ne_true}
use Rattle.ab_term.specs.Types.{Ty}
use Rattle.ab_term.specs.Terms.{Variable, Head, constant, logical, nominal, variable, index, lam, spine, Terms, no_terms, term, Read}
use Rattle.ab_term.specs.Typing.{Signature, HasType}
use Rattle.ab_term.specs.Translation.{translate, translate_all, translate_head, forget, forget_all}
use Rattle.ab_term.specs.Variables.{variables, image_by}
use Rattle.ab_term.proofs.Compositions.{then_by, image_composed}
use Rattle.ab_term.proofs.Depends.{image_unmoved}
use Rattle.ab_term.proofs.Images.{IsTypedMap}
use Rattle.ab_term.proofs.Translations.{translate_typed}
use Rattle.ab_unifiers.specs.Replacements.{holds}
use Rattle.ab_unifiers.specs.Unification.{Equation}
use Rattle.ab_unifiers.specs.Unifiers.{AreTyped}
use Rattle.ab_unifiers.specs.Clauses.{Within}
use Rattle.ab_unifiers.proofs.Agreeing.{contains_holds, image_agrees}
use Rattle.ab_search_trees.specs.Lifting.{Guess}
use Rattle.ab_pattern_matching.specs.Reading.{can_read, but, ReadInTurn, NoneRead, NoneMatters}
use Rattle.ab_pattern_matching.specs.Raising.{Bare}
use Rattle.ab_pattern_matching.proofs.Going.{but_typed}

-- a term without hints, with some
abbrev pub dress : Bare → Read
dress = translate (λ v. v) (λ u. codes "x")

same_head : (h : Head ℕ) → translate_head (λ v. v) (translate_head (λ v. v) h) ≡ h
same_head (constant c) = refl
same_head (logical l) = refl
same_head (nominal a) = refl
same_head (variable y) = refl
same_head (index i) = refl

mutual
  pub dressed : (t : Bare) → forget (dress t) ≡ t
  dressed (lam A x t) = ap (lam A x) (dressed t)
  dressed (spine h ts) = ap (λ g. spine g (forget_all (translate_all (λ v. v) (λ u. codes "x") ts))) (same_head h) ∙ ap (spine h) (all_dressed ts)

  all_dressed : (ts : Terms ℕ (Unit {0})) → forget_all (translate_all (λ v. v) (λ u. codes "x") ts) ≡ ts
  all_dressed no_terms = refl
  all_dressed (term t ts) = ap (λ u. term u (forget_all (translate_all (λ v. v) (λ u. codes "x") ts))) (dressed t) ∙ ap (term t) (all_dressed ts)

-- for these variables alone
module _ (sg : Signature) (zs : List (Variable ℕ)) (f : Guess) (f_typed : IsTypedMap sg f) (apart : (y : Variable ℕ) (v : Bare) → f y ≡ Some v → (z : Variable ℕ) → holds (variables v) z ≡ true → holds zs z ≡ false) where
  abbrev pub own : Guess
  own y = cond (holds zs y) (f y) None

  pub own_typed : IsTypedMap sg own
  own_typed y v e = go (holds zs y) e
    where
      go : (b : Bool) → cond b (f y) None ≡ Some v → HasType sg [] v y.type
      go true q = f_typed y v q
      go false q = absurd (cc)

  pub own_there : (y : Variable ℕ) → holds zs y ≡ true → own y ≡ f y
  own_there y h = ap (λ b. cond b (f y) None) h

  pub own_not : (y : Variable ℕ) → holds zs y ≡ false → own y ≡ None
  own_not y h = ap (λ b. cond b (f y) None) h

  pub own_some : (y : Variable ℕ) (v : Bare) → own y ≡ Some v → f y ≡ Some v
  own_some y v e = go (holds zs y) e
    where
      go : (b : Bool) → cond b (f y) None ≡ Some v → f y ≡ Some v
      go true q = q
      go false q = absurd (cc)

  but_own : (us : List (Variable ℕ)) (y : Variable ℕ) → own y ≡ None → but us own y ≡ None
  but_own us y e = go (holds us y)
    where
      go : (b : Bool) → cond b None (own y) ≡ None
      go true = refl
      go false = e

  -- first the others, then these but for some
  pub in_two : (us : List (Variable ℕ)) → Within us zs → {G : List Ty} {t : Bare} {A : Ty} → HasType sg G t A → image_by (but us own) (image_by (but zs f) t) ≡ image_by (but us f) t
  in_two us within {t = t} d =
      image_composed sg ℕ (Unit {0}) (but zs f) (but us own) (but_typed sg zs f f_typed) (but_typed sg us own own_typed) d
      ∙ image_agrees (λ y. then_by (but us own) y (but zs f y)) (but us f) t (λ y m. at y (holds zs y) refl (f y) refl)
    where
      at : (y : Variable ℕ) (b : Bool) → holds zs y ≡ b → (o : Option Bare) → f y ≡ o → then_by (but us own) y (cond (holds zs y) None (f y)) ≡ cond (holds us y) None (f y)
      at y true h o e =
          ap (λ b. then_by (but us own) y (cond b None (f y))) h
          ∙ ap (λ k. cond (holds us y) None k) (own_there y h)
      at y false h None e =
          ap (λ b. then_by (but us own) y (cond b None (f y))) h
          ∙ ap (then_by (but us own) y) e
          ∙ but_own us y (own_not y h)
          ∙ sym (ap (λ b. cond b None (f y)) outside ∙ e)
        where
          outside : holds us y ≡ false
          outside = false_from_ne_true (holds us y) (λ i. false≢true (sym h ∙ within y i))
      at y false h (Some v) e =
          ap (λ b. then_by (but us own) y (cond b None (f y))) h
          ∙ ap (then_by (but us own) y) e
          ∙ ap Some (image_unmoved (but us own) v (λ z m. but_own us z (own_not z (apart y v e z (contains_holds (variables v) z m)))))
          ∙ sym (ap (λ b. cond b None (f y)) outside ∙ e)
        where
          outside : holds us y ≡ false
          outside = false_from_ne_true (holds us y) (λ i. false≢true (sym h ∙ within y i))

  -- the equations with these terms put in
  abbrev pub put_first : List (Equation (List ℕ)) → List (Equation (List ℕ))
  put_first [] = []
  put_first (e ∷ es) = record { place = e.place; left = e.left; right = dress (image_by (but zs f) (forget e.right)) } ∷ put_first es

  none_read : (us : List (Variable ℕ)) → Within us zs → (es : List (Equation (List ℕ))) → AreTyped sg es → NoneRead us own (put_first es) → NoneRead us f es
  none_read us w [] t n = tt
  none_read us w (e ∷ es) t n = (
    sym (ap (can_read us) (ap (image_by (but us own)) (dressed (image_by (but zs f) (forget e.right))) ∙ in_two us w (translate_typed sg (λ v. v) (λ h. tt) t.0.3))) ∙ n.0,
    none_read us w es t.1 n.1,
  )

  none_matters : (us : List (Variable ℕ)) → Within us zs → (es : List (Equation (List ℕ))) → AreTyped sg es → NoneMatters us f es → NoneMatters us own (put_first es)
  none_matters us w [] t n = tt
  none_matters us w (e ∷ es) t n =
      let d = translate_typed sg (λ v. v) (λ h. tt) t.0.3 in
      let put = dressed (image_by (but zs f) (forget e.right)) in (
        ap (image_by (but us own)) put ∙ in_two us w d ∙ n.0 ∙ sym (in_two [] (λ y h. absurd (false≢true h)) d) ∙ sym (ap (image_by own) put),
        none_matters us w es t.1 n.1,
      )

  -- READ OFF IN TURN still
  pub turn_put : (es : List (Equation (List ℕ))) → AreTyped sg es → ReadInTurn zs f es → ReadInTurn zs own (put_first es)
  turn_put es t turn us w n = none_matters us w es t (turn us w (none_read us w es t n))
