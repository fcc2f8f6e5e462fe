-- Substitutions as lists: well-typed, composed, translated; and one for a variable's own eta-long form.
use Rattle.std.proofs.Common.{◌≡◌, ℕ, List, [], ◌∷◌, map, Bool, true, false, Option, Some, None, refl, sym, ◌∙◌, ap, subst}
use Rattle.std.specs.Prelude.{cond}
use Rattle.std.proofs.lemmas.List.Elements.{All-head, All-tail, All-append, All-map, All-weaker}
use Rattle.ab_term.specs.Types.{Ty, kind, arrow}
use Rattle.ab_term.specs.Terms.{Variable, Head, constant, logical, nominal, variable, index, Term, lam, spine, Terms, term}
use Rattle.ab_term.specs.Typing.{Signature, head_type, HasType, TakeType, typed_lam, typed_spine, take_none, take_term}
use Rattle.ab_term.specs.Substitution.{reduce, instance}
use Rattle.ab_term.specs.Variables.{put_for, put_at, image_by, image_all_by, Substitution, same_variable, value_in, image, composition, IsTyped}
use Rattle.ab_term.proofs.Comparisons.{same_variable-type}
use Rattle.ab_term.proofs.Closed.{closed_typed}
use Rattle.ab_term.proofs.Images.{IsTypedMap, image_by_typed, image_all_by_typed, image_through, image_by-substitute}
use Rattle.ab_term.proofs.Preservation.{here}

-- what is put in first, and then g on that; or g at once
abbrev pub then_by : {Var Hint : Type 0} → (Variable Var → Option (Term Var Hint)) → Variable Var → Option (Term Var Hint) → Option (Term Var Hint)
then_by g x None = g x
then_by g x (Some u) = Some (image_by g u)

module _ (sg : Signature) (Var Hint : Type 0) (f g : Variable Var → Option (Term Var Hint)) (f_typed : IsTypedMap sg f) (g_typed : IsTypedMap sg g) where
  abbrev both_by : Variable Var → Option (Term Var Hint)
  both_by x = then_by g x (f x)

  variable_composed : (G : List Ty) (x : Variable Var) (o : Option (Term Var Hint)) → f x ≡ o → (ts ss : Terms Var Hint) (c : List ℕ) → TakeType sg G ts x.type (kind c) → image_all_by g ts ≡ ss
      → image_by g (put_for x o ts) ≡ put_for x (then_by g x o) ss
  variable_composed G x None e ts ss c ds h = ap (put_for x (g x)) h
  variable_composed G x (Some u) e ts ss c ds h =
      image_through sg Var Hint g g_typed x.type G u ts c (closed_typed sg G (f_typed x u e)) ds ∙ ap (reduce x.type (image_by g u)) h

  head_composed : (G : List Ty) (h : Head Var) (D : Ty) (ts : Terms Var Hint) (c : List ℕ) → head_type sg G h ≡ Some D → TakeType sg G ts D (kind c) → image_all_by g (image_all_by f ts) ≡ image_all_by both_by ts
      → image_by g (put_at f h (image_all_by f ts)) ≡ put_at both_by h (image_all_by both_by ts)
  head_composed G (constant b) D ts c e ds ih = ap (spine (constant b)) ih
  head_composed G (logical l) D ts c e ds ih = ap (spine (logical l)) ih
  head_composed G (nominal a) D ts c e ds ih = ap (spine (nominal a)) ih
  head_composed G (variable x) D ts c e ds ih =
      let same : D ≡ x.type = cc in
      variable_composed G x (f x) refl (image_all_by f ts) (image_all_by both_by ts) c (rw same at (image_all_by_typed sg Var Hint f f_typed ds)) ih
  head_composed G (index i) D ts c e ds ih = ap (spine (index i)) ih

  mutual
    pub image_composed : {G : List Ty} {t : Term Var Hint} {A : Ty} → HasType sg G t A → image_by g (image_by f t) ≡ image_by both_by t
    image_composed (typed_lam {A = A} {x = x} d) = ap (lam A x) (image_composed d)
    image_composed {G = G} (typed_spine {A = D} {h = h} {ts = ts} {k = c} e ds) = head_composed G h D ts c e ds (image_all_composed ds)

    image_all_composed : {G : List Ty} {ts : Terms Var Hint} {A B : Ty} → TakeType sg G ts A B → image_all_by g (image_all_by f ts) ≡ image_all_by both_by ts
    image_all_composed take_none = refl
    image_all_composed (take_term {t = t} {ts = ts} d ds) = ap (λ s. term s (image_all_by g (image_all_by f ts))) (image_composed d) ∙ ap (term (image_by both_by t)) (image_all_composed ds)

module _ (sg : Signature) {Var Hint : Type 0} (same : Var → Var → Bool) where
  value_typed : (s : Substitution Var Hint) → IsTyped sg s → (x : Variable Var) (u : Term Var Hint) → value_in same s x ≡ Some u → HasType sg [] u x.type
  value_typed [] all x u e = absurd (cc)
  value_typed (p ∷ s) all x u e = go (value_typed s (All-tail (λ q. HasType sg [] q.1 q.0.type) p s all) x u) (same_variable same p.0 x) refl e
    where
      go : (value_in same s x ≡ Some u → HasType sg [] u x.type) → (b : Bool) → same_variable same p.0 x ≡ b → cond b (Some p.1) (value_in same s x) ≡ Some u → HasType sg [] u x.type
      go rest true t e2 =
          let value : p.1 ≡ u = cc in
          subst (λ v. HasType sg [] v x.type) value (subst (HasType sg [] p.1) (same_variable-type same p.0 x t) (All-head (λ q. HasType sg [] q.1 q.0.type) p s all))
      go rest false t e2 = rest e2

  pub map_typed : (s : Substitution Var Hint) → IsTyped sg s → IsTypedMap sg (value_in same s)
  map_typed s all x u e = value_typed s all x u e

module _ {Var Hint : Type 0} (same : Var → Var → Bool) where
  pub value_in-composition : (s r : Substitution Var Hint) (x : Variable Var) → value_in same (composition same s r) x ≡ then_by (value_in same r) x (value_in same s x)
  value_in-composition [] r x = refl
  value_in-composition (p ∷ s) r x = go (value_in-composition s r x) (same_variable same p.0 x)
    where
      go : value_in same (composition same s r) x ≡ then_by (value_in same r) x (value_in same s x) → (b : Bool) → cond b (Some (image same r p.1)) (value_in same (composition same s r) x) ≡ then_by (value_in same r) x (cond b (Some p.1) (value_in same s x))
      go rest true = refl
      go rest false = rest

module _ (sg : Signature) {Var Hint : Type 0} (same : Var → Var → Bool) (s : Substitution Var Hint) (s_typed : IsTyped sg s) where
  pub image_typed : {G : List Ty} {t : Term Var Hint} {A : Ty} → HasType sg G t A → HasType sg G (image same s t) A
  image_typed d = image_by_typed sg Var Hint (value_in same s) (map_typed sg same s s_typed) d

  -- the law of composition
  pub image-composition : (r : Substitution Var Hint) → IsTyped sg r → {G : List Ty} {t : Term Var Hint} {A : Ty} → HasType sg G t A → image same (composition same s r) t ≡ image same r (image same s t)
  image-composition r r_typed {t = t} d =
      ap (λ f. image_by f t) (λ i x. value_in-composition same s r x i)
      ∙ sym (image_composed sg Var Hint (value_in same s) (value_in same r) (map_typed sg same s s_typed) (map_typed sg same r r_typed) d)

  -- the composition is well-typed
  pub composition_typed : (r : Substitution Var Hint) → IsTyped sg r → IsTyped sg (composition same s r)
  composition_typed r r_typed =
      All-append (λ p. HasType sg [] p.1 p.0.type) (map (λ p. (p.0, image same r p.1)) s) r
      (All-map (λ p. HasType sg [] p.1 p.0.type) (λ p. (p.0, image same r p.1)) s
      (All-weaker (λ p. HasType sg [] p.1 p.0.type) (λ p. HasType sg [] (image same r p.1) p.0.type) (λ p d. image_by_typed sg Var Hint (value_in same r) (map_typed sg same r r_typed) d) s s_typed))
      r_typed

  -- through an instance
  pub image-instance : {G : List Ty} {t u : Term Var Hint} {A B : Ty} → HasType sg G t (arrow A B) → HasType sg G u A → image same s (instance t u) ≡ instance (image same s t) (image same s u)
  image-instance (typed_lam d) e = image_by-substitute sg Var Hint (value_in same s) (map_typed sg same s s_typed) here e d
