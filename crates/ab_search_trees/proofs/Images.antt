-- The form of a formula's image: the connectives and quantifiers stay.
use Rattle.std.proofs.Common.{◌≡◌, ℕ, List, refl}
use Rattle.ab_term.specs.Logical as plain
use Rattle.ab_term.specs.Logical.{Logical}
use Rattle.ab_term.specs.Terms.{constant, logical, nominal, variable, index, lam, spine, Terms, no_terms, term, Read}
use Rattle.ab_term.specs.Variables.{Substitution, image, image_all}
use Rattle.ab_term.specs.Sameness.{same_number}
use Rattle.ab_formulas.specs.Formulas.{a_formula, StandsIn}
use Rattle.ab_formulas.specs.Forms.{Form, truth, falsity, both, either, implies, equal, for_all, exists, nabla, marked, other, form_of, form_given, form_alone, form_with, form_between}

module _ (r : Substitution ℕ (List ℕ)) where
  abbrev pub under : Read → Read
  under = image same_number r

  abbrev pub form_under : Form → Form
  form_under truth = truth
  form_under falsity = falsity
  form_under (both A B) = both (under A) (under B)
  form_under (either A B) = either (under A) (under B)
  form_under (implies A B) = implies (under A) (under B)
  form_under (equal A t u) = equal A (under t) (under u)
  form_under (for_all A F) = for_all A (under F)
  form_under (exists A F) = exists A (under F)
  form_under (nabla A F) = nabla A (under F)
  form_under (marked m A) = marked m (under A)
  form_under other = other

  alone_under : (l : Logical) → form_alone l ≡ form_under (form_alone l)
  alone_under plain.truth = refl
  alone_under plain.falsity = refl
  alone_under _ = refl

  with_under : (l : Logical) (t : Read) → form_with l (under t) ≡ form_under (form_with l t)
  with_under (plain.universal A) t = refl
  with_under (plain.existential A) t = refl
  with_under (plain.nabla A) t = refl
  with_under (plain.star i) t = refl
  with_under (plain.at_sign i) t = refl
  with_under (plain.plus i) t = refl
  with_under (plain.hash i) t = refl
  with_under _ t = refl

  between_under : (l : Logical) (t u : Read) → form_between l (under t) (under u) ≡ form_under (form_between l t u)
  between_under plain.conjunction t u = refl
  between_under plain.disjunction t u = refl
  between_under plain.implication t u = refl
  between_under (plain.equality A) t u = refl
  between_under _ t u = refl

  given_under : (l : Logical) (ts : Terms ℕ (List ℕ)) → form_given l (image_all same_number r ts) ≡ form_under (form_given l ts)
  given_under l no_terms = alone_under l
  given_under l (term t no_terms) = with_under l t
  given_under l (term t (term u no_terms)) = between_under l t u
  given_under l (term t (term u (term v ts))) = refl

  pub form_image : (C : Read) → StandsIn a_formula C → form_of (under C) ≡ form_under (form_of C)
  form_image (lam A x t) s = absurd s
  form_image (spine (variable y) ts) s = absurd s.0
  form_image (spine (index i) ts) s = absurd s.0
  form_image (spine (constant c) ts) s = refl
  form_image (spine (nominal a) ts) s = refl
  form_image (spine (logical l) ts) s = given_under l ts
