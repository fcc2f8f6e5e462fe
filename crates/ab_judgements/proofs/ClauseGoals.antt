-- The goal of a clause, by what the body is.
use Rattle.std.proofs.Common.{◌≡◌, List, [], ◌∷◌, Option, Some, None, refl, sym, ◌∙◌, ap}
use Rattle.ab_term.specs.Logical.{Logical, truth, conjunction, disjunction, implication, equality, universal, existential, nabla, star, at_sign, plus, hash}
use Rattle.ab_term.specs.Terms.{logical, lam, spine, no_terms, term, Read}
use Rattle.ab_formulas.specs.Forms.{form_with, form_between, truth_in, as_truth}
use Rattle.ab_formulas.specs.Programs.{goals_in}

abbrev goals_by : Option (Unit {0}) → Read → List Read
goals_by None t = t ∷ []
goals_by (Some u) t = []

one_given : (l : Logical) (t : Read) → truth_in (form_with l t) ≡ None
one_given (universal A) t = refl
one_given (existential A) t = refl
one_given (nabla A) t = refl
one_given (star i) t = refl
one_given (at_sign i) t = refl
one_given (plus i) t = refl
one_given (hash i) t = refl
one_given l t = refl

two_given : (l : Logical) (t u : Read) → truth_in (form_between l t u) ≡ None
two_given conjunction t u = refl
two_given disjunction t u = refl
two_given implication t u = refl
two_given (equality A) t u = refl
two_given l t u = refl

seen : (F : Read) → goals_in F ≡ goals_by (as_truth F) F
seen (lam A x t) = refl
seen (spine (logical truth) no_terms) = refl
seen (spine (logical l) no_terms) = refl
seen (spine (logical l) (term t no_terms)) = sym (ap (λ w. goals_by w (spine (logical l) (term t no_terms))) (one_given l t))
seen (spine (logical l) (term t (term u no_terms))) = sym (ap (λ w. goals_by w (spine (logical l) (term t (term u no_terms)))) (two_given l t u))
seen (spine (logical l) (term t (term u (term v ts)))) = refl
seen (spine h ts) = refl

pub no_goal : (F : Read) → as_truth F ≡ Some tt → [] ≡ goals_in F
no_goal F e = sym (seen F ∙ ap (λ w. goals_by w F) e)

pub one_goal : (F : Read) → as_truth F ≡ None → F ∷ [] ≡ goals_in F
one_goal F e = sym (seen F ∙ ap (λ w. goals_by w F) e)
