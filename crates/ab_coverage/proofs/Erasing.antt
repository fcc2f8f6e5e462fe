-- MARKS COME OFF: formulas without their marks go through substitutions; a body with marks is the body once they are taken off, and so is
-- a goal that was opened with marks.
use Rattle.std.proofs.Common.{◌≡◌, ℕ, zero, List, Bool, true, false, cond, Option, refl, ◌∙◌, ap}
use Rattle.ab_term.specs.Logical.{truth, falsity, conjunction, disjunction, implication, equality, universal, existential, nabla, judgement, focused_judgement, star, at_sign, plus, hash, spec_universal, spec_implication, spec_conjunction}
use Rattle.ab_term.specs.Substitution.{shift}
use Rattle.ab_term.specs.Terms as tree
use Rattle.ab_term.specs.Terms.{constant, logical, nominal, variable, index, lam, spine, Terms, no_terms, term, Read}
use Rattle.ab_term.specs.Variables.{image_by, image_all_by}
use Rattle.ab_unifiers.specs.Member.{before}
use Rattle.ab_formulas.specs.BodyMarks.{with_mark, is_one_of, marked_in, all_marked_in}
use Rattle.ab_formulas.specs.Formulas.{a_formula, a_scope, StandsIn, AllStandIn}
use Rattle.ab_formulas.specs.Marks.{Sign, plain, star_of, at_of, plus_of, hash_of, erased, erased_all}
use Rattle.ab_theory.specs.Opening.{both, open_goal}

-- an atom or a judgement, with a mark
pub unmark : (m : Sign) (t : Read) → erased t ≡ t → erased (with_mark m t) ≡ t
unmark plain t e = e
unmark (star_of i) t e = refl
unmark (at_of i) t e = refl
unmark (plus_of i) t e = refl
unmark (hash_of i) t e = refl

module _ (f : tree.Variable ℕ → Option Read) where
  mutual
    pub erased-image : (F : Read) → StandsIn a_formula F → erased (image_by f F) ≡ image_by f (erased F)
    erased-image (lam A x t) s = absurd s
    erased-image (spine (constant c) ts) s = refl
    erased-image (spine (nominal a) ts) s = refl
    erased-image (spine (variable y) ts) s = absurd s.0
    erased-image (spine (index i) ts) s = absurd s.0
    erased-image (spine (logical truth) ts) s = refl
    erased-image (spine (logical falsity) ts) s = refl
    erased-image (spine (logical conjunction) ts) s = ap (spine (logical conjunction)) (formulas-image ts s.1)
    erased-image (spine (logical disjunction) ts) s = ap (spine (logical disjunction)) (formulas-image ts s.1)
    erased-image (spine (logical implication) ts) s = ap (spine (logical implication)) (formulas-image ts s.1)
    erased-image (spine (logical (equality A)) ts) s = refl
    erased-image (spine (logical (universal A)) ts) s = ap (spine (logical (universal A))) (scopes-image ts s.1)
    erased-image (spine (logical (existential A)) ts) s = ap (spine (logical (existential A))) (scopes-image ts s.1)
    erased-image (spine (logical (nabla A)) ts) s = ap (spine (logical (nabla A))) (scopes-image ts s.1)
    erased-image (spine (logical judgement) ts) s = refl
    erased-image (spine (logical focused_judgement) ts) s = refl
    erased-image (spine (logical (star i)) no_terms) s = refl
    erased-image (spine (logical (star i)) (term t ts)) s = refl
    erased-image (spine (logical (at_sign i)) no_terms) s = refl
    erased-image (spine (logical (at_sign i)) (term t ts)) s = refl
    erased-image (spine (logical (plus i)) no_terms) s = refl
    erased-image (spine (logical (plus i)) (term t ts)) s = refl
    erased-image (spine (logical (hash i)) no_terms) s = refl
    erased-image (spine (logical (hash i)) (term t ts)) s = refl
    erased-image (spine (logical (spec_universal A)) ts) s = refl
    erased-image (spine (logical spec_implication) ts) s = refl
    erased-image (spine (logical spec_conjunction) ts) s = refl

    formulas-image : (ts : Terms ℕ (List ℕ)) → AllStandIn a_formula ts → erased_all (image_all_by f ts) ≡ image_all_by f (erased_all ts)
    formulas-image no_terms s = refl
    formulas-image (term t ts) s = ap (λ u. term u (erased_all (image_all_by f ts))) (erased-image t s.0) ∙ ap (term (image_by f (erased t))) (formulas-image ts s.1)

    scopes-image : (ts : Terms ℕ (List ℕ)) → AllStandIn a_scope ts → erased_all (image_all_by f ts) ≡ image_all_by f (erased_all ts)
    scopes-image no_terms s = refl
    scopes-image (term (lam A x t) ts) s = ap (λ u. term u (erased_all (image_all_by f ts))) (ap (lam A x) (erased-image t s.0)) ∙ ap (term (image_by f (erased (lam A x t)))) (scopes-image ts s.1)
    scopes-image (term (spine h us) ts) s = absurd s.0

module _ (ps : List (List ℕ)) (m : Sign) where
  by_test : (b : Bool) (c : List ℕ) (ts : Terms ℕ (List ℕ)) → erased (cond b (with_mark m (spine (constant c) ts)) (spine (constant c) ts)) ≡ spine (constant c) ts
  by_test true c ts = unmark m (spine (constant c) ts) refl
  by_test false c ts = refl

  mutual
    pub erased-marked : (F : Read) → erased (marked_in ps m F) ≡ erased F
    erased-marked (lam A x t) = ap (lam A x) (erased-marked t)
    erased-marked (spine (constant c) ts) = by_test (is_one_of ps (constant c)) c ts
    erased-marked (spine (nominal a) ts) = refl
    erased-marked (spine (variable y) ts) = refl
    erased-marked (spine (index i) ts) = refl
    erased-marked (spine (logical truth) ts) = refl
    erased-marked (spine (logical falsity) ts) = refl
    erased-marked (spine (logical conjunction) ts) = ap (spine (logical conjunction)) (all_erased-marked ts)
    erased-marked (spine (logical disjunction) ts) = ap (spine (logical disjunction)) (all_erased-marked ts)
    erased-marked (spine (logical implication) ts) = ap (spine (logical implication)) (all_erased-marked ts)
    erased-marked (spine (logical (equality A)) ts) = refl
    erased-marked (spine (logical (universal A)) ts) = ap (spine (logical (universal A))) (all_erased-marked ts)
    erased-marked (spine (logical (existential A)) ts) = ap (spine (logical (existential A))) (all_erased-marked ts)
    erased-marked (spine (logical (nabla A)) ts) = ap (spine (logical (nabla A))) (all_erased-marked ts)
    erased-marked (spine (logical judgement) ts) = refl
    erased-marked (spine (logical focused_judgement) ts) = refl
    erased-marked (spine (logical (star i)) ts) = refl
    erased-marked (spine (logical (at_sign i)) ts) = refl
    erased-marked (spine (logical (plus i)) ts) = refl
    erased-marked (spine (logical (hash i)) ts) = refl
    erased-marked (spine (logical (spec_universal A)) ts) = refl
    erased-marked (spine (logical spec_implication) ts) = refl
    erased-marked (spine (logical spec_conjunction) ts) = refl

    all_erased-marked : (ts : Terms ℕ (List ℕ)) → erased_all (all_marked_in ps m ts) ≡ erased_all ts
    all_erased-marked no_terms = refl
    all_erased-marked (term t ts) = ap (λ u. term u (erased_all (all_marked_in ps m ts))) (erased-marked t) ∙ ap (term (erased t)) (all_erased-marked ts)

pub erased-open : (m : Sign) (L G : Read) → erased (open_goal m L G) ≡ open_goal plain L G
erased-open m L (spine (logical (spec_universal A)) (term (lam B x G) no_terms)) = ap (λ F. spine (logical (nabla A)) (term (lam A x F) no_terms)) (erased-open m (shift zero L) G)
erased-open m L (spine (logical spec_implication) (term F (term G no_terms))) = erased-open m (before F L) G
erased-open m L (spine (logical spec_conjunction) (term F (term G no_terms))) = ap (λ H. both H (erased (open_goal m L G))) (erased-open m L F) ∙ ap (both (open_goal plain L F)) (erased-open m L G)
erased-open m L G = unmark m (spine (logical judgement) (term L (term G no_terms))) refl
