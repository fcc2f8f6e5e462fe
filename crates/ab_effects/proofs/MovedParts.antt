-- What comes of judgements, with other numbers for variables.
use Rattle.std.proofs.Common.{◌≡◌, ℕ, zero, suc, List, [], ◌∷◌, ◌++◌, map, length, refl, ◌∙◌, ap}
use Rattle.ab_term.specs.Logical.{nabla, spec_universal, spec_implication, spec_conjunction}
use Rattle.ab_term.specs.Terms.{Head, constant, logical, nominal, variable, index, lam, spine, Terms, no_terms, term, Read}
use Rattle.ab_term.specs.Translation.{translate, translate_all, translate_head}
use Rattle.ab_term.specs.Substitution.{shift, instance_by_all}
use Rattle.ab_term.specs.Reach.{raise, raise_all, raise_head}
use Rattle.ab_term.proofs.Translations.{map-append, translate-shift, translate-instance_by_all}
use Rattle.ab_unifiers.specs.Replacements.{Cell}
use Rattle.ab_unifiers.specs.Member.{before}
use Rattle.ab_formulas.specs.Marks.{Sign, plain, star_of, at_of, plus_of, hash_of}
use Rattle.ab_theory.specs.Judgements.{marked_judgement}
use Rattle.ab_theory.specs.Opening.{open_goal, both, conjunction_from, conjunction_of}
use Rattle.ab_effects.specs.Judgements.{renumbered_part}
use Rattle.ab_theory.specs.Parts.{Part, under_name, with_goal, parts_of, under_all, put_under}

module _ (f : ℕ → ℕ) where
  abbrev pub T : Read → Read
  T = translate f (λ x. x)

  abbrev pub Ts : Terms ℕ (List ℕ) → Terms ℕ (List ℕ)
  Ts = translate_all f (λ x. x)

  pub judged_moved : (m : Sign) (L G : Read) → T (marked_judgement m L G) ≡ marked_judgement m (T L) (T G)
  judged_moved plain L G = refl
  judged_moved (star_of i) L G = refl
  judged_moved (at_of i) L G = refl
  judged_moved (plus_of i) L G = refl
  judged_moved (hash_of i) L G = refl

  -- A GOAL, OPENED
  pub opened_moved : (m : Sign) (L G : Read) → T (open_goal m L G) ≡ open_goal m (T L) (T G)
  opened_moved m L (spine (logical (spec_universal A)) (term (lam B x G) no_terms)) =
      ap (λ t. spine (logical (nabla A)) (term (lam A x t) no_terms)) (opened_moved m (shift zero L) G ∙ ap (λ K. open_goal m K (T G)) (translate-shift f (λ (x : List ℕ). x) L zero))
  opened_moved m L (spine (logical spec_implication) (term F (term G no_terms))) = opened_moved m (before F L) G
  opened_moved m L (spine (logical spec_conjunction) (term F (term G no_terms))) =
      ap (λ t. both t (T (open_goal m L G))) (opened_moved m L F) ∙ ap (both (open_goal m (T L) (T F))) (opened_moved m L G)
  opened_moved m L G = judged_moved m L G

  conjoined_moved : (F : Read) (Gs : List Read) → T (conjunction_from F Gs) ≡ conjunction_from (T F) (map T Gs)
  conjoined_moved F [] = refl
  conjoined_moved F (G ∷ Gs) = conjoined_moved (both F G) Gs

  pub conjunction_moved : (Fs : List Read) → T (conjunction_of Fs) ≡ conjunction_of (map T Fs)
  conjunction_moved [] = refl
  conjunction_moved (F ∷ Fs) = conjoined_moved F Fs

  pub all_opened_moved : (m : Sign) (L : Read) (Gs : List Read) → map T (map (open_goal m L) Gs) ≡ map (open_goal m (T L)) (map T Gs)
  all_opened_moved m L [] = refl
  all_opened_moved m L (G ∷ Gs) = ap (λ t. t ∷ map T (map (open_goal m L) Gs)) (opened_moved m L G) ∙ ap (λ l. open_goal m (T L) (T G) ∷ l) (all_opened_moved m L Gs)

  -- A FORMULA, TAKEN APART

  raise_head_moved : (d k : ℕ) (h : Head ℕ) → translate_head f (raise_head d k h) ≡ raise_head d k (translate_head f h)
  raise_head_moved d k (constant c) = refl
  raise_head_moved d k (logical l) = refl
  raise_head_moved d k (nominal a) = refl
  raise_head_moved d k (variable x) = refl
  raise_head_moved d k (index i) = refl

  mutual
    raise_moved : (d k : ℕ) (t : Read) → T (raise d k t) ≡ raise d k (T t)
    raise_moved d k (lam A x t) = ap (lam A x) (raise_moved d (suc k) t)
    raise_moved d k (spine h ts) = ap (λ g. spine g (Ts (raise_all d k ts))) (raise_head_moved d k h) ∙ ap (spine (raise_head d k (translate_head f h))) (raise_all_moved d k ts)

    raise_all_moved : (d k : ℕ) (ts : Terms ℕ (List ℕ)) → Ts (raise_all d k ts) ≡ raise_all d k (Ts ts)
    raise_all_moved d k no_terms = refl
    raise_all_moved d k (term t ts) = ap (λ s. term s (Ts (raise_all d k ts))) (raise_moved d k t) ∙ ap (term (raise d k (T t))) (raise_all_moved d k ts)

  under_moved : (c : Cell (List ℕ)) (ps qs : List Part) → map (renumbered_part f) ps ≡ qs → map (renumbered_part f) (map (under_name c) ps) ≡ map (under_name c) qs
  under_moved c ps qs e = go ps ∙ ap (map (under_name c)) e
    where
      go : (ps : List Part) → map (renumbered_part f) (map (under_name c) ps) ≡ map (under_name c) (map (renumbered_part f) ps)
      go [] = refl
      go (p ∷ ps) = ap (λ l. under_name c (renumbered_part f p) ∷ l) (go ps)

  goal_moved : (G : Read) (ps qs : List Part) → map (renumbered_part f) ps ≡ qs → map (renumbered_part f) (map (with_goal G) ps) ≡ map (with_goal (T G)) qs
  goal_moved G ps qs e = go ps ∙ ap (map (with_goal (T G))) e
    where
      one : (p : Part) → renumbered_part f (with_goal G p) ≡ with_goal (T G) (renumbered_part f p)
      one p = ap (λ t. record { names = p.names; goals = t ∷ map T p.goals; atom = T p.atom }) (raise_moved (length p.names) zero G)

      go : (ps : List Part) → map (renumbered_part f) (map (with_goal G) ps) ≡ map (with_goal (T G)) (map (renumbered_part f) ps)
      go [] = refl
      go (p ∷ ps) = ap (λ q. q ∷ map (renumbered_part f) (map (with_goal G) ps)) (one p) ∙ ap (λ l. with_goal (T G) (renumbered_part f p) ∷ l) (go ps)

  pub parts_moved : (F : Read) → map (renumbered_part f) (parts_of F) ≡ parts_of (T F)
  parts_moved (spine (logical (spec_universal A)) (term (lam B x F) no_terms)) = under_moved (record { hint = x; type = A }) (parts_of F) (parts_of (T F)) (parts_moved F)
  parts_moved (spine (logical spec_implication) (term G (term F no_terms))) = goal_moved G (parts_of F) (parts_of (T F)) (parts_moved F)
  parts_moved (spine (logical spec_conjunction) (term F (term G no_terms))) =
      map-append (renumbered_part f) (parts_of F) (parts_of G) ∙ ap (λ l. l ++ map (renumbered_part f) (parts_of G)) (parts_moved F) ∙ ap (λ l. parts_of (T F) ++ l) (parts_moved G)
  parts_moved A = refl

  under_all_moved : (cs : List (Cell (List ℕ))) (t : Read) → T (under_all cs t) ≡ under_all cs (T t)
  under_all_moved [] t = refl
  under_all_moved (c ∷ cs) t = ap (lam c.type c.hint) (under_all_moved cs t)

  pub put_under_moved : (cs : List (Cell (List ℕ))) (us : List Read) (t : Read) → T (put_under cs us t) ≡ put_under cs (map T us) (T t)
  put_under_moved cs us t = translate-instance_by_all f (λ (x : List ℕ). x) us (under_all cs t) ∙ ap (λ s. instance_by_all s (map T us)) (under_all_moved cs t)
