-- Judgements, and their goals: a goal whose head is `pi`, `=>` or `&` is opened.
use Rattle.std.specs.Prelude.{zero, Bool, false, codes, bytes_eq}
use Rattle.ab_term.specs.Types.{Ty}
use Rattle.ab_term.specs.Logical.{truth, conjunction, existential, nabla, judgement, focused_judgement, spec_universal, spec_implication, spec_conjunction}
use Rattle.ab_term.specs.Terms.{Head, constant, logical, nominal, Term, lam, spine, Terms, no_terms, term}
use Rattle.ab_term.specs.Substitution.{shift}
pub use Rattle.ab_coverage.specs.VacuousNames.{is_binder_at, head_or, stands, stands_all, lower, lower_all, without_vacuous}

-- a goal by its head: `pi`, `=>` or `&`; a constant or a nominal constant; or what may still become anything
pub data GoalForm : Type 0 where
  compound atomic flexible : GoalForm

module _ {Var Hint : Type 0} where
  -- `{L |- G}` and `{L, [F] |- A}`
  abbrev pub judged : Term Var Hint → Term Var Hint → Term Var Hint
  judged L G = spine (logical judgement) (term L (term G no_terms))

  abbrev pub focused : Term Var Hint → Term Var Hint → Term Var Hint → Term Var Hint
  focused L F A = spine (logical focused_judgement) (term L (term F (term A no_terms)))

  -- `F :: L`, and whether a list is `nil`
  abbrev pub in_front : Term Var Hint → Term Var Hint → Term Var Hint
  in_front F L = spine (constant (codes "::")) (term F (term L no_terms))

  abbrev pub is_nil : Term Var Hint → Bool
  is_nil (spine (constant c) ts) = bytes_eq c (codes "nil")
  is_nil _ = false

  -- `member F L`
  abbrev pub member_of : Term Var Hint → Term Var Hint → Term Var Hint
  member_of F L = spine (constant (codes "member")) (term F (term L no_terms))

  -- `true`, `F /\ G`, `exists x, F` and `nabla x, F`
  abbrev pub true_formula : Term Var Hint
  true_formula = spine (logical truth) no_terms

  abbrev pub both : Term Var Hint → Term Var Hint → Term Var Hint
  both F G = spine (logical conjunction) (term F (term G no_terms))

  abbrev pub for_some : Ty → Hint → Term Var Hint → Term Var Hint
  for_some A x F = spine (logical (existential A)) (term (lam A x F) no_terms)

  abbrev pub goal_form : Term Var Hint → GoalForm
  goal_form (spine (constant c) ts) = atomic
  goal_form (spine (nominal a) ts) = atomic
  goal_form (spine (logical (spec_universal A)) ts) = compound
  goal_form (spine (logical spec_implication) ts) = compound
  goal_form (spine (logical spec_conjunction) ts) = compound
  goal_form _ = flexible

  -- A GOAL OPENED, with the list that it is asked from
  abbrev pub open_goal : Term Var Hint → Term Var Hint → Term Var Hint
  open_goal L (spine (logical (spec_universal A)) (term (lam B x G) no_terms)) = spine (logical (nabla A)) (term (lam A x (open_goal (shift zero L) G)) no_terms)
  open_goal L (spine (logical spec_implication) (term F (term G no_terms))) = open_goal (in_front F L) G
  open_goal L (spine (logical spec_conjunction) (term F (term G no_terms))) = both (open_goal L F) (open_goal L G)
  open_goal L A = judged L A

  -- each unfocused judgement of a formula opened; `done` are a connective's parts with theirs opened
  abbrev pub full_at : Head Var → Terms Var Hint → Terms Var Hint → Term Var Hint
  full_at (logical judgement) (term L (term G no_terms)) done = open_goal L G
  full_at (logical l) ts done = spine (logical l) done
  full_at h ts done = spine h ts

  abbrev mutual
    pub full : Term Var Hint → Term Var Hint
    full (lam A x t) = lam A x (full t)
    full (spine h ts) = full_at h ts (full_all ts)

    pub full_all : Terms Var Hint → Terms Var Hint
    full_all no_terms = no_terms
    full_all (term t ts) = term (full t) (full_all ts)
