-- Other variables and hints go through a substitution for variables: here the tests of variables have to agree.
use Rattle.std.proofs.Common.{◌≡◌, [], ◌∷◌, map, Bool, true, false, Option, Some, None, option_map, refl, sym, ◌∙◌, ap}
use Rattle.std.specs.Prelude.{◌&&◌, cond}
use Rattle.ab_term.specs.Types.{same_type}
use Rattle.ab_term.specs.Terms.{Variable, Head, constant, logical, nominal, variable, index, Term, lam, spine, Terms, no_terms, term}
use Rattle.ab_term.specs.Translation.{translate_variable, translate_head, translate, translate_all}
use Rattle.ab_term.specs.Variables.{put_for, put_at, image_by, image_all_by, Substitution, same_variable, value_in, image}
use Rattle.ab_term.proofs.Translations.{translate-reduce}

-- the same substitution, of the translated variables
abbrev pub translated : {Var Hint New NewHint : Type 0} → (Var → New) → (Hint → NewHint) → Substitution Var Hint → Substitution New NewHint
translated f g = map (λ p. (translate_variable f p.0, translate f g p.1))

module _ {Var Hint New NewHint : Type 0} (f : Var → New) (g : Hint → NewHint) where
  translate-put_for : (x : Variable Var) (o : Option (Term Var Hint)) (ts : Terms Var Hint)
      → translate f g (put_for x o ts) ≡ put_for (translate_variable f x) (option_map (translate f g) o) (translate_all f g ts)
  translate-put_for x None ts = refl
  translate-put_for x (Some u) ts = translate-reduce f g x.type u ts

  module _ (s : Variable Var → Option (Term Var Hint)) (r : Variable New → Option (Term New NewHint)) (same_value : (x : Variable Var) → option_map (translate f g) (s x) ≡ r (translate_variable f x)) where
    translate-put_at : (h : Head Var) (ts : Terms Var Hint) → translate f g (put_at s h ts) ≡ put_at r (translate_head f h) (translate_all f g ts)
    translate-put_at (constant c) ts = refl
    translate-put_at (logical l) ts = refl
    translate-put_at (nominal a) ts = refl
    translate-put_at (variable x) ts = translate-put_for x (s x) ts ∙ ap (λ o. put_for (translate_variable f x) o (translate_all f g ts)) (same_value x)
    translate-put_at (index i) ts = refl

    mutual
      pub translate-image_by : (t : Term Var Hint) → translate f g (image_by s t) ≡ image_by r (translate f g t)
      translate-image_by (lam A x t) = ap (lam A (g x)) (translate-image_by t)
      translate-image_by (spine h ts) = translate-put_at h (image_all_by s ts) ∙ ap (put_at r (translate_head f h)) (translate_all-image_by ts)

      translate_all-image_by : (ts : Terms Var Hint) → translate_all f g (image_all_by s ts) ≡ image_all_by r (translate_all f g ts)
      translate_all-image_by no_terms = refl
      translate_all-image_by (term t ts) = ap (λ u. term u (translate_all f g (image_all_by s ts))) (translate-image_by t) ∙ ap (term (image_by r (translate f g t))) (translate_all-image_by ts)

  module _ (same : Var → Var → Bool) (same_new : New → New → Bool) (agree : (v w : Var) → same_new (f v) (f w) ≡ same v w) where
    value_in-translated : (s : Substitution Var Hint) (x : Variable Var) → option_map (translate f g) (value_in same s x) ≡ value_in same_new (translated f g s) (translate_variable f x)
    value_in-translated [] x = refl
    value_in-translated (p ∷ s) x =
        go (value_in-translated s x) (same_variable same p.0 x)
        ∙ ap (λ b. cond (b && same_type p.0.type x.type) (Some (translate f g p.1)) (value_in same_new (translated f g s) (translate_variable f x))) (sym (agree p.0.name x.name))
      where
        go : option_map (translate f g) (value_in same s x) ≡ value_in same_new (translated f g s) (translate_variable f x) → (b : Bool)
            → option_map (translate f g) (cond b (Some p.1) (value_in same s x)) ≡ cond b (Some (translate f g p.1)) (value_in same_new (translated f g s) (translate_variable f x))
        go rest true = refl
        go rest false = rest

    pub translate-image : (s : Substitution Var Hint) (t : Term Var Hint) → translate f g (image same s t) ≡ image same_new (translated f g s) (translate f g t)
    translate-image s t = translate-image_by (value_in same s) (value_in same_new (translated f g s)) (value_in-translated s) t
