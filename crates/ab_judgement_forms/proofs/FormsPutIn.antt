-- Eta-long forms whose binders have all one hint: put in for a variable's own form they stay as they are, hints included.
use Rattle.std.proofs.Common.{◌≡◌, ℕ, suc, List, [], ◌∷◌, map, Some, refl, sym, ◌∙◌, ap}
use Rattle.ab_term.specs.Types.{Ty, kind, arrow}
use Rattle.ab_term.specs.Terms.{Nominal, Variable, Head, nominal, variable, lam, spine, Term, Terms, no_terms, term, Read}
use Rattle.ab_term.specs.Typing.{Signature}
use Rattle.ab_term.specs.Expansion.{expansion_of, expansion}
use Rattle.ab_term.specs.Translation.{translate, translate_all, translate_head, forget, forget_all}
use Rattle.ab_term.specs.Variables.{value_in, image, image_by, IsTyped}
use Rattle.ab_term.specs.Sameness.{same_number}
use Rattle.ab_term.specs.Abstraction.{name_terms, over}
use Rattle.ab_term.proofs.Forgetting.{forget_head}
use Rattle.ab_term.proofs.Translations.{translate-expansion, translate-expansion_of}
use Rattle.ab_term.proofs.ImageTranslations.{translated, translate-image}
use Rattle.ab_unifiers.specs.Replacements.{Cell}
use Rattle.ab_unifiers.specs.Clauses.{put_together}
use Rattle.ab_unifiers.specs.Prefixes.{own_terms}
use Rattle.ab_unifiers.specs.Alternatives.{made_terms}
use Rattle.ab_unifiers.proofs.Lifting.{own_value}
use Rattle.ab_unifiers.proofs.Past.{own, bare, forget-image, forget-own}

module _ (x : List ℕ) where
  -- the term with this hint at each binder
  abbrev with_hint : Read → Read
  with_hint = translate (λ v. v) (λ h. x)

  abbrev all_with_hint : Terms ℕ (List ℕ) → Terms ℕ (List ℕ)
  all_with_hint = translate_all (λ v. v) (λ h. x)

  abbrev pub IsHinted : Read → Type 0
  IsHinted t = with_hint t ≡ t

  abbrev pub AreHinted : List Read → Type 0
  AreHinted [] = Unit {0}
  AreHinted (t ∷ ts) = IsHinted t × AreHinted ts

  abbrev back : Term ℕ (Unit {0}) → Read
  back = translate (λ v. v) (λ h. x)

  abbrev all_back : Terms ℕ (Unit {0}) → Terms ℕ (List ℕ)
  all_back = translate_all (λ v. v) (λ h. x)

  mutual
    back_again : (t : Read) → back (forget t) ≡ with_hint t
    back_again (lam A y t) = ap (lam A x) (back_again t)
    back_again (spine h ts) = ap (λ g. spine g (all_back (forget_all ts))) (forget_head (translate_head (λ v. v) h)) ∙ ap (spine (translate_head (λ v. v) h)) (all_back_again ts)

    all_back_again : (ts : Terms ℕ (List ℕ)) → all_back (forget_all ts) ≡ all_with_hint ts
    all_back_again no_terms = refl
    all_back_again (term t ts) = ap (λ s. term s (all_back (forget_all ts))) (back_again t) ∙ ap (term (with_hint t)) (all_back_again ts)

  -- such terms are the same where they are so past hints
  same_hinted : (t u : Read) → IsHinted t → IsHinted u → forget t ≡ forget u → t ≡ u
  same_hinted t u i j e = sym i ∙ sym (back_again t) ∙ ap back e ∙ back_again u ∙ j

  name_terms_hinted : (A : Ty) (hs : List (Head ℕ)) → all_with_hint (name_terms x A hs) ≡ name_terms x A hs
  name_terms_hinted A [] = refl
  name_terms_hinted (kind k) (h ∷ hs) = refl
  name_terms_hinted (arrow A B) (h ∷ hs) =
      ap (λ t. term t (all_with_hint (name_terms x B hs))) (translate-expansion (λ v. v) (λ h. x) x A h ∙ ap (expansion x A) (forget_head h))
      ∙ ap (term (expansion x A h)) (name_terms_hinted B hs)

  pub own_hinted : (y : Variable ℕ) → IsHinted (own x y)
  own_hinted y = translate-expansion (λ v. v) (λ h. x) x y.type (variable y)

  pub all_own_hinted : (ys : List (Variable ℕ)) → AreHinted (own_terms x ys)
  all_own_hinted [] = tt
  all_own_hinted (y ∷ ys) = (own_hinted y, all_own_hinted ys)

  pub made_hinted : (n : ℕ) (ns : List Nominal) (cs : List (Cell (List ℕ))) → AreHinted (made_terms x n ns cs)
  made_hinted n ns [] = tt
  made_hinted n ns (c ∷ cs) = (
    translate-expansion_of (λ v. v) (λ h. x) x c.type (variable (record { name = n; type = over ns c.type })) (name_terms x (over ns c.type) (map nominal ns))
        ∙ ap (expansion_of x c.type (variable (record { name = n; type = over ns c.type }))) (name_terms_hinted (over ns c.type) (map nominal ns)),
    made_hinted (suc n) ns cs,
  )

  together_hinted : (ys : List (Variable ℕ)) (ts : List Read) → AreHinted ts → translated (λ v. v) (λ h. x) (put_together ys ts) ≡ put_together ys ts
  together_hinted [] ts a = refl
  together_hinted (y ∷ ys) [] a = refl
  together_hinted (y ∷ ys) (t ∷ ts) a =
      ap (λ u. (y, u) ∷ translated (λ v. v) (λ h. x) (put_together ys ts)) a.0 ∙ ap (λ l. (y, t) ∷ l) (together_hinted ys ts a.1)

  -- WHAT IS PUT IN for a variable's own form
  pub own_put : (sg : Signature) (ys : List (Variable ℕ)) (ts : List Read) → IsTyped sg (put_together ys ts) → AreHinted ts → (y : Variable ℕ) (u : Read) → IsHinted u → value_in same_number (put_together ys ts) y ≡ Some u
      → image same_number (put_together ys ts) (own x y) ≡ u
  own_put sg ys ts typed hints y u i e =
      let s = put_together ys ts in
      same_hinted (image same_number s (own x y)) u
      (translate-image (λ v. v) (λ h. x) same_number same_number (λ v w. refl) s (own x y)
      ∙ ap (λ r. image same_number r (with_hint (own x y))) (together_hinted ys ts hints)
      ∙ ap (image same_number s) (own_hinted y))
      i
      (forget-image s (own x y) ∙ ap (image_by (bare s)) (forget-own x y) ∙ own_value sg s typed y u e)
