-- What is put in for a variable in the variable's eta-long form is what is put in. A law of terms without hints.
use Rattle.std.proofs.Common.{◌≡◌, zero, ◌≤◌, List, [], ◌∷◌, Bool, true, Option, Some, None, refl, sym, ◌∙◌, ap}
use Rattle.std.specs.Prelude.{cond}
use Rattle.ab_term.specs.Types.{Ty, kind, arrow}
use Rattle.ab_term.specs.Terms.{Variable, Head, constant, logical, nominal, variable, index, Term, lam, spine, Terms, no_terms, term, with_last}
use Rattle.ab_term.specs.Typing.{Signature, HasType, TakeType, take_none}
use Rattle.ab_term.specs.Substitution.{shift_head, shift, shift_all, reduce}
use Rattle.ab_term.specs.Expansion.{expansion_of, expansion}
use Rattle.ab_term.specs.Variables.{put_for, put_at, image_by, image_all_by, value_in, image}
use Rattle.ab_term.specs.Reach.{reach}
use Rattle.ab_term.proofs.Preservation.{here, shift_all_typed}
use Rattle.ab_term.proofs.Reaching.{shift-short}
use Rattle.ab_term.proofs.Closed.{closed_typed, closed_reach}
use Rattle.ab_term.proofs.Expansions.{take_last, expansion_typed, reduce_taken, reduce-no_terms, reduce-expansion_of, by_lam}
use Rattle.ab_term.proofs.Images.{IsTypedMap, shift_all-image_all_by}
use Rattle.std.proofs.lemmas.List.Elements.{All-cons, All-nil}
use Rattle.ab_term.proofs.Compositions.{map_typed}
use Rattle.ab_term.proofs.Comparisons.{same_variable-itself}

module _ {Var Hint : Type 0} (f : Variable Var → Option (Term Var Hint)) where
  image_all_by-with_last : (ts : Terms Var Hint) (t : Term Var Hint) → image_all_by f (with_last ts t) ≡ with_last (image_all_by f ts) (image_by f t)
  image_all_by-with_last no_terms t = refl
  image_all_by-with_last (term s ts) t = ap (term (image_by f s)) (image_all_by-with_last ts t)

module _ (sg : Signature) (Var Hint : Type 0) (f : Variable Var → Option (Term Var Hint)) (typed : IsTypedMap sg f) where
  -- the head is none that f replaces
  abbrev pub Stays : Head Var → Type 0
  Stays (variable x) = f x ≡ None
  Stays _ = Unit {0}

  stays_shifted : (h : Head Var) → Stays h → Stays (shift_head zero h)
  stays_shifted (constant c) s = s
  stays_shifted (logical l) s = s
  stays_shifted (nominal a) s = s
  stays_shifted (variable x) s = s
  stays_shifted (index i) s = s

  put_stays : (h : Head Var) → Stays h → (ts : Terms Var Hint) → put_at f h ts ≡ spine h ts
  put_stays (constant c) s ts = refl
  put_stays (logical l) s ts = refl
  put_stays (nominal a) s ts = refl
  put_stays (variable x) s ts = ap (λ o. put_for x o ts) s
  put_stays (index i) s ts = refl

  -- the form of a head that stays
  pub image_by-expansion_of : (x : Hint) (B : Ty) (h : Head Var) (ts : Terms Var Hint) → Stays h → image_by f (expansion_of x B h ts) ≡ expansion_of x B h (image_all_by f ts)
  image_by-expansion_of x (kind c) h ts s = put_stays h s (image_all_by f ts)
  image_by-expansion_of x (arrow B C) h ts s = ap (lam B x)
      (image_by-expansion_of x C (shift_head zero h) (with_last (shift_all zero ts) (expansion x B (index zero))) (stays_shifted h s)
      ∙ ap (expansion_of x C (shift_head zero h))
      (image_all_by-with_last f (shift_all zero ts) (expansion x B (index zero))
      ∙ ap (λ l. with_last l (image_by f (expansion x B (index zero)))) (sym (shift_all-image_all_by sg Var Hint f typed ts zero))
      ∙ ap (with_last (shift_all zero (image_all_by f ts))) (image_by-expansion_of x B (index zero) no_terms tt)))

module _ (sg : Signature) (Var : Type 0) (f : Variable Var → Option (Term Var (Unit {0}))) (typed : IsTypedMap sg f) (x : Variable Var) (v : Term Var (Unit {0})) (value : f x ≡ Some v) where
  closed_shift : shift zero v ≡ v
  closed_shift = let small : reach v ≤ 0 = closed_reach sg (typed x v value) in shift-short v zero small

  pub own_by : (B : Ty) (G : List Ty) (xs ys : Terms Var (Unit {0})) → TakeType sg G ys x.type B → image_all_by f xs ≡ ys → image_by f (expansion_of tt B (variable x) xs) ≡ reduce x.type v ys
  own_by (kind c) G xs ys ds e = ap (λ o. put_for x o (image_all_by f xs)) value ∙ ap (reduce x.type v) e
  own_by (arrow B C) G xs ys ds e =
      let in_any : HasType sg G v x.type = closed_typed sg G (typed x v value) in
      ap (lam B tt)
      (own_by C (B ∷ G) (with_last (shift_all zero xs) (expansion tt B (index zero))) (with_last (shift_all zero ys) (expansion tt B (index zero)))
      (take_last sg (shift_all_typed sg here ds) (expansion_typed sg tt B (B ∷ G) (index zero) refl))
      (image_all_by-with_last f (shift_all zero xs) (expansion tt B (index zero))
      ∙ ap (λ l. with_last l (image_by f (expansion tt B (index zero)))) (sym (shift_all-image_all_by sg Var (Unit {0}) f typed xs zero) ∙ ap (shift_all zero) e)
      ∙ ap (with_last (shift_all zero ys)) (image_by-expansion_of sg Var (Unit {0}) f typed tt B (index zero) no_terms tt))
      ∙ ap (λ w. reduce x.type w (with_last (shift_all zero ys) (expansion tt B (index zero)))) (sym closed_shift))
      ∙ by_lam sg Var x.type B C (reduce-expansion_of sg Var B) in_any ds refl (reduce_taken sg in_any ds)

  pub image_by-own : image_by f (expansion tt x.type (variable x)) ≡ v
  image_by-own = own_by x.type [] no_terms no_terms take_none refl ∙ reduce-no_terms x.type v

module _ (sg : Signature) (Var : Type 0) (same : Var → Var → Bool) (x : Variable Var) (t : Term Var (Unit {0})) where
  pub image-own : same x.name x.name ≡ true → HasType sg [] t x.type → image same ((x, t) ∷ []) (expansion tt x.type (variable x)) ≡ t
  image-own itself d = image_by-own sg Var (value_in same ((x, t) ∷ [])) (map_typed sg same ((x, t) ∷ []) (All-cons (λ p. HasType sg [] p.1 p.0.type) (x, t) [] d (All-nil (λ p. HasType sg [] p.1 p.0.type)))) x t
      (ap (λ b. cond b (Some t) None) (same_variable-itself same x itself))
