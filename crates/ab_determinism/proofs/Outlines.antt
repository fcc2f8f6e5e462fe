-- A formula by its outermost constant, with names for the numbers of its variables, as far as it is taken apart.
use Rattle.std.proofs.Common.{◌≡◌, ℕ, List, refl, sym, ◌∙◌, ap, subst}
use Rattle.ab_term.specs.Types.{Ty}
use Rattle.ab_term.specs.Logical as plain
use Rattle.ab_term.specs.Logical.{Logical}
use Rattle.ab_term.specs.Terms.{Head, constant, logical, nominal, variable, index, lam, spine, Terms, no_terms, term, Read}
use Rattle.ab_term.specs.Translation.{translate}
use Rattle.ab_formulas.specs.Forms as form
use Rattle.ab_formulas.specs.Forms.{Form, form_of, form_alone, form_with, form_between}
use Rattle.ab_formulas.specs.NamedGoals.{Named}
use Rattle.ab_effects.specs.Openings.{IsWhole}
use Rattle.ab_effects.specs.Introductions.{IsKept}

pub data Outline : Type 0 where
  truth whole : Outline
  both implies : Named → Named → Outline
  for_all exists nabla : Ty → Named → Outline

abbrev alone : Logical → Outline
alone plain.truth = truth
alone _ = whole

abbrev with : Logical → Named → Outline
with (plain.universal A) t = for_all A t
with (plain.existential A) t = exists A t
with (plain.nabla A) t = nabla A t
with _ t = whole

abbrev between : Logical → Named → Named → Outline
between plain.conjunction t u = both t u
between plain.implication t u = implies t u
between _ t u = whole

abbrev given : Logical → Terms (List ℕ) (List ℕ) → Outline
given l no_terms = alone l
given l (term t no_terms) = with l t
given l (term t (term u no_terms)) = between l t u
given l (term t (term u (term v ts))) = whole

abbrev headed : Head (List ℕ) → Terms (List ℕ) (List ℕ) → Outline
headed (logical l) ts = given l ts
headed _ ts = whole

abbrev pub outline : Named → Outline
outline (lam A x t) = whole
outline (spine h ts) = headed h ts

module _ (f : ℕ → List ℕ) where
  abbrev named : Read → Named
  named t = translate f (λ x. x) t

  -- the outline of a form
  abbrev pub outlined : Form → Outline
  outlined form.truth = truth
  outlined (form.both A B) = both (named A) (named B)
  outlined (form.implies A B) = implies (named A) (named B)
  outlined (form.for_all A t) = for_all A (named t)
  outlined (form.exists A t) = exists A (named t)
  outlined (form.nabla A t) = nabla A (named t)
  outlined form.falsity = whole
  outlined (form.either A B) = whole
  outlined (form.equal A t u) = whole
  outlined (form.marked m t) = whole
  outlined form.other = whole

  alone_is : (l : Logical) → alone l ≡ outlined (form_alone l)
  alone_is plain.truth = refl
  alone_is plain.falsity = refl
  alone_is _ = refl

  with_is : (l : Logical) (t : Read) → with l (named t) ≡ outlined (form_with l t)
  with_is (plain.universal A) t = refl
  with_is (plain.existential A) t = refl
  with_is (plain.nabla A) t = refl
  with_is (plain.star i) t = refl
  with_is (plain.at_sign i) t = refl
  with_is (plain.plus i) t = refl
  with_is (plain.hash i) t = refl
  with_is _ t = refl

  between_is : (l : Logical) (t u : Read) → between l (named t) (named u) ≡ outlined (form_between l t u)
  between_is plain.conjunction t u = refl
  between_is plain.disjunction t u = refl
  between_is plain.implication t u = refl
  between_is (plain.equality A) t u = refl
  between_is _ t u = refl

  pub outline_is : (F : Read) → outline (named F) ≡ outlined (form_of F)
  outline_is (lam A x t) = refl
  outline_is (spine (logical l) no_terms) = alone_is l
  outline_is (spine (logical l) (term t no_terms)) = with_is l t
  outline_is (spine (logical l) (term t (term u no_terms))) = between_is l t u
  outline_is (spine (logical l) (term t (term u (term v ts)))) = refl
  outline_is (spine (constant c) ts) = refl
  outline_is (spine (nominal a) ts) = refl
  outline_is (spine (variable x) ts) = refl
  outline_is (spine (index i) ts) = refl

  -- what a form is whose outline is known

  pub from_truth : (g : Form) → outlined g ≡ truth → g ≡ form.truth
  from_truth form.truth e = refl
  from_truth _ e = absurd (cc)

  pub from_both : (g : Form) (X Y : Named) → outlined g ≡ both X Y → (A B : Read) × (g ≡ form.both A B) × (named A ≡ X) × (named B ≡ Y)
  from_both (form.both A B) X Y e = (A, B, refl, cc, cc)
  from_both _ X Y e = absurd (cc)

  pub from_implies : (g : Form) (X Y : Named) → outlined g ≡ implies X Y → (A B : Read) × (g ≡ form.implies A B) × (named A ≡ X) × (named B ≡ Y)
  from_implies (form.implies A B) X Y e = (A, B, refl, cc, cc)
  from_implies _ X Y e = absurd (cc)

  pub from_for_all : (g : Form) (A : Ty) (X : Named) → outlined g ≡ for_all A X → (t : Read) × (g ≡ form.for_all A t) × (named t ≡ X)
  from_for_all (form.for_all B t) A X e = let same : B ≡ A = cc in (t, ap (λ C. form.for_all C t) same, cc)
  from_for_all _ A X e = absurd (cc)

  pub from_exists : (g : Form) (A : Ty) (X : Named) → outlined g ≡ exists A X → (t : Read) × (g ≡ form.exists A t) × (named t ≡ X)
  from_exists (form.exists B t) A X e = let same : B ≡ A = cc in (t, ap (λ C. form.exists C t) same, cc)
  from_exists _ A X e = absurd (cc)

  pub from_nabla : (g : Form) (A : Ty) (X : Named) → outlined g ≡ nabla A X → (t : Read) × (g ≡ form.nabla A t) × (named t ≡ X)
  from_nabla (form.nabla B t) A X e = let same : B ≡ A = cc in (t, ap (λ C. form.nabla C t) same, cc)
  from_nabla _ A X e = absurd (cc)

-- what isn't taken apart, by its outline

abbrev IsWholeOutline : Outline → Type 0
IsWholeOutline truth = ⊥
IsWholeOutline (both X Y) = ⊥
IsWholeOutline (exists A X) = ⊥
IsWholeOutline (nabla A X) = ⊥
IsWholeOutline _ = Unit {0}

abbrev IsKeptOutline : Outline → Type 0
IsKeptOutline (for_all A X) = ⊥
IsKeptOutline (nabla A X) = ⊥
IsKeptOutline (implies X Y) = ⊥
IsKeptOutline _ = Unit {0}

whole_outlined : (f : ℕ → List ℕ) (g : Form) → IsWhole g → IsWholeOutline (outlined f g)
whole_outlined f form.truth w = w
whole_outlined f (form.both A B) w = w
whole_outlined f (form.exists A t) w = w
whole_outlined f (form.nabla A t) w = w
whole_outlined f _ w = tt

outlined_whole : (f : ℕ → List ℕ) (g : Form) → IsWholeOutline (outlined f g) → IsWhole g
outlined_whole f form.truth w = w
outlined_whole f (form.both A B) w = w
outlined_whole f (form.exists A t) w = w
outlined_whole f (form.nabla A t) w = w
outlined_whole f _ w = tt

kept_outlined : (f : ℕ → List ℕ) (g : Form) → IsKept g → IsKeptOutline (outlined f g)
kept_outlined f (form.for_all A t) w = w
kept_outlined f (form.nabla A t) w = w
kept_outlined f (form.implies A B) w = w
kept_outlined f _ w = tt

outlined_kept : (f : ℕ → List ℕ) (g : Form) → IsKeptOutline (outlined f g) → IsKept g
outlined_kept f (form.for_all A t) w = w
outlined_kept f (form.nabla A t) w = w
outlined_kept f (form.implies A B) w = w
outlined_kept f _ w = tt

-- FORMULAS THAT ARE THE SAME with names for numbers are taken apart alike
module _ (f g : ℕ → List ℕ) (F G : Read) (same : translate f (λ x. x) F ≡ translate g (λ x. x) G) where
  outlines : outlined f (form_of F) ≡ outlined g (form_of G)
  outlines = sym (outline_is f F) ∙ ap outline same ∙ outline_is g G

  pub also_truth : form_of F ≡ form.truth → form_of G ≡ form.truth
  also_truth e = from_truth g (form_of G) (sym outlines ∙ ap (outlined f) e)

  pub also_both : (A B : Read) → form_of F ≡ form.both A B → (C E : Read) × (form_of G ≡ form.both C E) × (translate f (λ x. x) A ≡ translate g (λ x. x) C) × (translate f (λ x. x) B ≡ translate g (λ x. x) E)
  also_both A B e = let p = from_both g (form_of G) _ _ (sym outlines ∙ ap (outlined f) e) in (p.0, p.1, p.2, sym p.3, sym p.4)

  pub also_implies : (A B : Read) → form_of F ≡ form.implies A B → (C E : Read) × (form_of G ≡ form.implies C E) × (translate f (λ x. x) A ≡ translate g (λ x. x) C) × (translate f (λ x. x) B ≡ translate g (λ x. x) E)
  also_implies A B e = let p = from_implies g (form_of G) _ _ (sym outlines ∙ ap (outlined f) e) in (p.0, p.1, p.2, sym p.3, sym p.4)

  pub also_for_all : (A : Ty) (t : Read) → form_of F ≡ form.for_all A t → (u : Read) × (form_of G ≡ form.for_all A u) × (translate f (λ x. x) t ≡ translate g (λ x. x) u)
  also_for_all A t e = let p = from_for_all g (form_of G) A _ (sym outlines ∙ ap (outlined f) e) in (p.0, p.1, sym p.2)

  pub also_exists : (A : Ty) (t : Read) → form_of F ≡ form.exists A t → (u : Read) × (form_of G ≡ form.exists A u) × (translate f (λ x. x) t ≡ translate g (λ x. x) u)
  also_exists A t e = let p = from_exists g (form_of G) A _ (sym outlines ∙ ap (outlined f) e) in (p.0, p.1, sym p.2)

  pub also_nabla : (A : Ty) (t : Read) → form_of F ≡ form.nabla A t → (u : Read) × (form_of G ≡ form.nabla A u) × (translate f (λ x. x) t ≡ translate g (λ x. x) u)
  also_nabla A t e = let p = from_nabla g (form_of G) A _ (sym outlines ∙ ap (outlined f) e) in (p.0, p.1, sym p.2)

  pub also_whole : IsWhole (form_of F) → IsWhole (form_of G)
  also_whole w = outlined_whole g (form_of G) (subst IsWholeOutline outlines (whole_outlined f (form_of F) w))

  pub also_kept : IsKept (form_of F) → IsKept (form_of G)
  also_kept w = outlined_kept g (form_of G) (subst IsKeptOutline outlines (kept_outlined f (form_of F) w))
