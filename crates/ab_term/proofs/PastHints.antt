-- Every operation respects equality past hints.
use Rattle.std.proofs.Common.{◌≡◌, ℕ, List, [], ◌∷◌, map, Option, Some, None, option_map, refl, sym, ◌∙◌, ap, subst}
use Rattle.ab_term.specs.Types.{Ty}
use Rattle.ab_term.specs.Terms.{Nominal, Variable, Head, Term}
use Rattle.ab_term.specs.Typing.{Signature, HasType}
use Rattle.ab_term.specs.Substitution.{shift, instance}
use Rattle.ab_term.specs.Translation.{translate_variable, forget, EqualPastHints}
use Rattle.ab_term.specs.Names.{support, rename}
use Rattle.ab_term.specs.Variables.{variables, image_by}
use Rattle.ab_term.specs.Reach.{reach}
use Rattle.ab_term.specs.Abstraction.{close, abstracted}
use Rattle.ab_term.proofs.Images.{IsTypedMap}
use Rattle.ab_term.proofs.ImageTranslations.{translate-image_by}
use Rattle.ab_term.proofs.Translations.{translate-shift, translate-instance, translate-rename, translate_typed, typed_before, support-translate, variables-translate, reach-translate}
use Rattle.ab_term.proofs.Closing.{forget-close, forget-abstracted}

map_same : {Var : Type 0} (ys : List (Variable Var)) → map (translate_variable (λ v. v)) ys ≡ ys
map_same [] = refl
map_same (y ∷ ys) = ap (λ l. y ∷ l) (map_same ys)

module _ {Var Hint : Type 0} where
  pub variables-forget : (t : Term Var Hint) → variables (forget t) ≡ variables t
  variables-forget t = variables-translate (λ v. v) (λ h. tt) t ∙ map_same (variables t)

  pub shift_past_hints : (k : ℕ) (t u : Term Var Hint) → EqualPastHints t u → EqualPastHints (shift k t) (shift k u)
  shift_past_hints k t u e = translate-shift (λ v. v) (λ x. tt) t k ∙ ap (shift k) e ∙ sym (translate-shift (λ v. v) (λ x. tt) u k)

  pub instance_past_hints : (t u v w : Term Var Hint) → EqualPastHints t v → EqualPastHints u w → EqualPastHints (instance t u) (instance v w)
  instance_past_hints t u v w d e =
      translate-instance (λ v. v) (λ x. tt) t u
      ∙ ap (λ s. instance s (forget u)) d
      ∙ ap (instance (forget v)) e
      ∙ sym (translate-instance (λ v. v) (λ x. tt) v w)

  pub rename_past_hints : (m : Nominal → Nominal) (t u : Term Var Hint) → EqualPastHints t u → EqualPastHints (rename m t) (rename m u)
  rename_past_hints m t u e = translate-rename (λ v. v) (λ x. tt) m t ∙ ap (rename m) e ∙ sym (translate-rename (λ v. v) (λ x. tt) m u)

  -- a map without hints
  abbrev pub bare : (Variable Var → Option (Term Var Hint)) → Variable Var → Option (Term Var (Unit {0}))
  bare f y = option_map forget (f y)

  pub forget-image : (f : Variable Var → Option (Term Var Hint)) (t : Term Var Hint) → forget (image_by f t) ≡ image_by (bare f) (forget t)
  forget-image f t = translate-image_by (λ v. v) (λ x. tt) f (bare f) (λ y. refl) t

  pub image_past_hints : (f g : Variable Var → Option (Term Var Hint)) → ((y : Variable Var) → bare f y ≡ bare g y) → (t u : Term Var Hint) → EqualPastHints t u → EqualPastHints (image_by f t) (image_by g u)
  image_past_hints f g a t u e =
      forget-image f t ∙ ap (λ h. image_by h (forget t)) (λ i y. a y i) ∙ ap (image_by (bare g)) e ∙ sym (forget-image g u)

  pub typed_past_hints : (sg : Signature) {G : List Ty} {A : Ty} (t u : Term Var Hint) → EqualPastHints t u → HasType sg G t A → HasType sg G u A
  typed_past_hints sg {G = G} {A = A} t u e d = typed_before sg (λ v. v) (λ x. tt) u (subst (λ s. HasType sg G s A) e (translate_typed sg (λ v. v) (λ x. tt) d))

  pub support_past_hints : (t u : Term Var Hint) → EqualPastHints t u → support t ≡ support u
  support_past_hints t u e = sym (support-translate (λ v. v) (λ x. tt) t) ∙ ap support e ∙ support-translate (λ v. v) (λ x. tt) u

  pub variables_past_hints : (t u : Term Var Hint) → EqualPastHints t u → variables t ≡ variables u
  variables_past_hints t u e = sym (variables-forget t) ∙ ap variables e ∙ variables-forget u

  pub reach_past_hints : (t u : Term Var Hint) → EqualPastHints t u → reach t ≡ reach u
  reach_past_hints t u e = sym (reach-translate (λ v. v) (λ x. tt) t) ∙ ap reach e ∙ reach-translate (λ v. v) (λ x. tt) u

  pub bare_typed : (sg : Signature) (f : Variable Var → Option (Term Var Hint)) → IsTypedMap sg f → IsTypedMap sg (bare f)
  bare_typed sg f typed y v e = go (f y) (λ u q. typed y u q) e
    where
      go : (o : Option (Term Var Hint)) → ((u : Term Var Hint) → o ≡ Some u → HasType sg [] u y.type) → option_map forget o ≡ Some v → HasType sg [] v y.type
      go None h e = absurd (cc)
      go (Some u) h e = let same : forget u ≡ v = cc in subst (λ w. HasType sg [] w y.type) same (translate_typed sg (λ v. v) (λ x. tt) (h u refl))

module _ {Hint : Type 0} where
  pub close_past_hints : (k : ℕ) (h : Head ℕ) (t u : Term ℕ Hint) → EqualPastHints t u → EqualPastHints (close k h t) (close k h u)
  close_past_hints k h t u e = forget-close k h t ∙ ap (close k h) e ∙ sym (forget-close k h u)

  pub abstracted_past_hints : (x : Hint) (A : Ty) (hs : List (Head ℕ)) (t u : Term ℕ Hint) → EqualPastHints t u → EqualPastHints (abstracted x A hs t) (abstracted x A hs u)
  abstracted_past_hints x A hs t u e = forget-abstracted x A hs t ∙ ap (abstracted tt A hs) e ∙ sym (forget-abstracted x A hs u)
