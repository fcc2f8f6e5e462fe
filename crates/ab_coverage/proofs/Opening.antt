-- Opened goals and other operations: opening goes through shifts and translations, and after a substitution what is
-- opened again is the goal opened after the substitution.
use Rattle.std.proofs.Common.{◌≡◌, ℕ, zero, suc, Option, refl, sym, ◌∙◌, ap, arith}
use Rattle.ab_term.specs.Types.{Ty}
use Rattle.ab_term.specs.Logical.{conjunction, nabla, judgement, spec_universal, spec_implication, spec_conjunction}
use Rattle.ab_term.specs.Terms.{Variable, constant, logical, nominal, variable, index, Term, lam, spine, Terms, no_terms, term}
use Rattle.ab_term.specs.Substitution.{shift, shift_all, substitute, substitute_all}
use Rattle.ab_term.specs.Translation.{translate_head, translate, translate_all}
use Rattle.ab_term.proofs.ClosedMaps.{IsClosedMap, shift-image}
use Rattle.ab_term.specs.Variables.{image_by}
use Rattle.ab_term.proofs.Shifts.{shift-shift, shift-substitute_low, shift-reduce}
use Rattle.ab_term.proofs.Translations.{translate-shift}
use Rattle.ab_coverage.proofs.IndexedGoals.{judged, in_front, open_goal, full, full_all}

module _ {Var Hint : Type 0} where
  -- how a goal is opened
  pub data Opens : Term Var Hint → Term Var Hint → Term Var Hint → Type 0 where
    under_pi : {A B : Ty} {x : Hint} {L G F : Term Var Hint} → Opens (shift zero L) G F → Opens L (spine (logical (spec_universal A)) (term (lam B x G) no_terms)) (spine (logical (nabla A)) (term (lam A x F) no_terms))
    assumed : {L F G H : Term Var Hint} → Opens (in_front F L) G H → Opens L (spine (logical spec_implication) (term F (term G no_terms))) H
    parted : {L F G H K : Term Var Hint} → Opens L F H → Opens L G K → Opens L (spine (logical spec_conjunction) (term F (term G no_terms))) (spine (logical conjunction) (term H (term K no_terms)))
    stays : {L G : Term Var Hint} → Opens L G (judged L G)

  pub opens : (G L : Term Var Hint) → Opens L G (open_goal L G)
  opens (spine (logical (spec_universal A)) (term (lam B x G) no_terms)) L = under_pi (opens G (shift zero L))
  opens (spine (logical spec_implication) (term F (term G no_terms))) L = assumed (opens G (in_front F L))
  opens (spine (logical spec_conjunction) (term F (term G no_terms))) L = parted (opens F L) (opens G L)
  opens G L = stays

  pub open-shift : (G L : Term Var Hint) (k : ℕ) → open_goal (shift k L) (shift k G) ≡ shift k (open_goal L G)
  open-shift (spine (logical (spec_universal A)) (term (lam B x G) no_terms)) L k =
      ap (λ F. spine (logical (nabla A)) (term (lam A x F) no_terms)) (ap (λ K. open_goal K (shift (suc k) G)) (sym (shift-shift L zero k (omega arith))) ∙ open-shift G (shift zero L) (suc k))
  open-shift (spine (logical spec_implication) (term F (term G no_terms))) L k = open-shift G (in_front F L) k
  open-shift (spine (logical spec_conjunction) (term F (term G no_terms))) L k =
      ap (λ H. spine (logical conjunction) (term H (term (open_goal (shift k L) (shift k G)) no_terms))) (open-shift F L k)
      ∙ ap (λ K. spine (logical conjunction) (term (shift k (open_goal L F)) (term K no_terms))) (open-shift G L k)
  open-shift G L k = refl

  -- a substitution, and then the goals opened that came to be compound
  module _ (A : Ty) where
    substitute-opens : (u : Term Var Hint) (k : ℕ) {L G F : Term Var Hint} → Opens L G F → full (substitute A u k F) ≡ open_goal (substitute A u k L) (substitute A u k G)
    substitute-opens u k (under_pi {A = C} {B = B} {x = x} {L = L} {G = G} o) =
        ap (λ H. spine (logical (nabla C)) (term (lam C x H) no_terms))
        (substitute-opens (shift zero u) (suc k) o ∙ ap (λ K. open_goal K (substitute A (shift zero u) (suc k) G)) (sym (shift-substitute_low L _ u zero k (shift-reduce A) (omega arith))))
    substitute-opens u k (assumed o) = substitute-opens u k o
    substitute-opens u k (parted {L = L} {F = F} {G = G} {H = H} {K = K} o p) =
        ap (λ M. spine (logical conjunction) (term M (term (full (substitute A u k K)) no_terms))) (substitute-opens u k o)
        ∙ ap (λ M. spine (logical conjunction) (term (open_goal (substitute A u k L) (substitute A u k F)) (term M no_terms))) (substitute-opens u k p)
    substitute-opens u k stays = refl

    pub substitute-open : (u : Term Var Hint) (k : ℕ) (L G : Term Var Hint) → full (substitute A u k (open_goal L G)) ≡ open_goal (substitute A u k L) (substitute A u k G)
    substitute-open u k L G = substitute-opens u k (opens G L)

  -- the same of the terms that a map gives for variables
  module _ (f : Variable Var → Option (Term Var Hint)) (closed : IsClosedMap f) where
    image-opens : {L G F : Term Var Hint} → Opens L G F → full (image_by f F) ≡ open_goal (image_by f L) (image_by f G)
    image-opens (under_pi {A = C} {B = B} {x = x} {L = L} {G = G} o) =
        ap (λ H. spine (logical (nabla C)) (term (lam C x H) no_terms)) (image-opens o ∙ ap (λ K. open_goal K (image_by f G)) (sym (shift-image f closed L zero)))
    image-opens (assumed o) = image-opens o
    image-opens (parted {L = L} {F = F} {G = G} {H = H} {K = K} o p) =
        ap (λ M. spine (logical conjunction) (term M (term (full (image_by f K)) no_terms))) (image-opens o)
        ∙ ap (λ M. spine (logical conjunction) (term (open_goal (image_by f L) (image_by f F)) (term M no_terms))) (image-opens p)
    image-opens stays = refl

    pub image-open : (L G : Term Var Hint) → full (image_by f (open_goal L G)) ≡ open_goal (image_by f L) (image_by f G)
    image-open L G = image-opens (opens G L)

  -- what is opened stays so
  full-opens : {L G F : Term Var Hint} → Opens L G F → full F ≡ open_goal L G
  full-opens (under_pi {A = C} {B = B} {x = x} o) = ap (λ H. spine (logical (nabla C)) (term (lam C x H) no_terms)) (full-opens o)
  full-opens (assumed o) = full-opens o
  full-opens (parted {L = L} {F = F} {K = K} o p) =
      ap (λ M. spine (logical conjunction) (term M (term (full K) no_terms))) (full-opens o)
      ∙ ap (λ M. spine (logical conjunction) (term (open_goal L F) (term M no_terms))) (full-opens p)
  full-opens stays = refl

  pub full-open : (L G : Term Var Hint) → full (open_goal L G) ≡ open_goal L G
  full-open L G = full-opens (opens G L)

  mutual
    pub full-shift : (t : Term Var Hint) (k : ℕ) → full (shift k t) ≡ shift k (full t)
    full-shift (lam A x t) k = ap (lam A x) (full-shift t (suc k))
    full-shift (spine (logical judgement) (term L (term G no_terms))) k = open-shift G L k
    full-shift (spine (logical judgement) no_terms) k = refl
    full-shift (spine (logical judgement) (term L no_terms)) k = ap (λ M. spine (logical judgement) (term M no_terms)) (full-shift L k)
    full-shift (spine (logical judgement) (term L (term G (term M ts)))) k = ap (spine (logical judgement)) (full_all-shift (term L (term G (term M ts))) k)
    full-shift (spine (logical l) ts) k = ap (spine (logical l)) (full_all-shift ts k)
    full-shift (spine (constant c) ts) k = refl
    full-shift (spine (nominal a) ts) k = refl
    full-shift (spine (variable y) ts) k = refl
    full-shift (spine (index i) ts) k = refl

    full_all-shift : (ts : Terms Var Hint) (k : ℕ) → full_all (shift_all k ts) ≡ shift_all k (full_all ts)
    full_all-shift no_terms k = refl
    full_all-shift (term t ts) k = ap (λ u. term u (full_all (shift_all k ts))) (full-shift t k) ∙ ap (term (shift k (full t))) (full_all-shift ts k)

  module _ (A : Ty) where
    mutual
      pub full-substitute : (t u : Term Var Hint) (k : ℕ) → full (substitute A u k t) ≡ full (substitute A u k (full t))
      full-substitute (lam B x t) u k = ap (lam B x) (full-substitute t (shift zero u) (suc k))
      full-substitute (spine (logical judgement) (term L (term G no_terms))) u k = sym (substitute-open A u k L G)
      full-substitute (spine (logical judgement) no_terms) u k = refl
      full-substitute (spine (logical judgement) (term L no_terms)) u k = ap (λ M. spine (logical judgement) (term M no_terms)) (full-substitute L u k)
      full-substitute (spine (logical judgement) (term L (term G (term M ts)))) u k = ap (spine (logical judgement)) (full_all-substitute (term L (term G (term M ts))) u k)
      full-substitute (spine (logical l) ts) u k = ap (spine (logical l)) (full_all-substitute ts u k)
      full-substitute (spine (constant c) ts) u k = refl
      full-substitute (spine (nominal a) ts) u k = refl
      full-substitute (spine (variable y) ts) u k = refl
      full-substitute (spine (index i) ts) u k = refl

      full_all-substitute : (ts : Terms Var Hint) (u : Term Var Hint) (k : ℕ) → full_all (substitute_all A u k ts) ≡ full_all (substitute_all A u k (full_all ts))
      full_all-substitute no_terms u k = refl
      full_all-substitute (term t ts) u k =
          ap (λ v. term v (full_all (substitute_all A u k ts))) (full-substitute t u k)
          ∙ ap (term (full (substitute A u k (full t)))) (full_all-substitute ts u k)

-- other variables and other hints
module _ {Var Hint New NewHint : Type 0} (f : Var → New) (g : Hint → NewHint) where
  pub translate-open : (G L : Term Var Hint) → translate f g (open_goal L G) ≡ open_goal (translate f g L) (translate f g G)
  translate-open (spine (logical (spec_universal A)) (term (lam B x G) no_terms)) L =
      ap (λ F. spine (logical (nabla A)) (term (lam A (g x) F) no_terms)) (translate-open G (shift zero L) ∙ ap (λ K. open_goal K (translate f g G)) (translate-shift f g L zero))
  translate-open (spine (logical spec_implication) (term F (term G no_terms))) L = translate-open G (in_front F L)
  translate-open (spine (logical spec_conjunction) (term F (term G no_terms))) L =
      ap (λ H. spine (logical conjunction) (term H (term (translate f g (open_goal L G)) no_terms))) (translate-open F L)
      ∙ ap (λ K. spine (logical conjunction) (term (open_goal (translate f g L) (translate f g F)) (term K no_terms))) (translate-open G L)
  translate-open G L = refl

  mutual
    pub translate-full : (t : Term Var Hint) → translate f g (full t) ≡ full (translate f g t)
    translate-full (lam A x t) = ap (lam A (g x)) (translate-full t)
    translate-full (spine (logical judgement) (term L (term G no_terms))) = translate-open G L
    translate-full (spine (logical judgement) no_terms) = refl
    translate-full (spine (logical judgement) (term L no_terms)) = ap (λ M. spine (logical judgement) (term M no_terms)) (translate-full L)
    translate-full (spine (logical judgement) (term L (term G (term M ts)))) = ap (spine (logical judgement)) (translate_all-full (term L (term G (term M ts))))
    translate-full (spine (logical l) ts) = ap (spine (translate_head f (logical l))) (translate_all-full ts)
    translate-full (spine (constant c) ts) = refl
    translate-full (spine (nominal a) ts) = refl
    translate-full (spine (variable y) ts) = refl
    translate-full (spine (index i) ts) = refl

    translate_all-full : (ts : Terms Var Hint) → translate_all f g (full_all ts) ≡ full_all (translate_all f g ts)
    translate_all-full no_terms = refl
    translate_all-full (term t ts) = ap (λ u. term u (translate_all f g (full_all ts))) (translate-full t) ∙ ap (term (full (translate f g t))) (translate_all-full ts)
