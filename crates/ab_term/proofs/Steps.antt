-- Hereditary substitution does nothing that single beta steps don't: its result is reached from the plain
-- application by them.
use Rattle.std.proofs.Common.{◌≡◌, ℕ, zero, suc, List, Option, Some, None, refl, sym, ◌∙◌, subst, ap}
use Rattle.ab_term.specs.Types.{Ty, kind, arrow}
use Rattle.ab_term.specs.Terms.{Head, Term, lam, spine, Terms, no_terms, term}
use Rattle.ab_term.specs.Typing.{Signature, HasType, TakeType, typed_lam, typed_spine, take_none, take_term}
use Rattle.ab_term.specs.Substitution.{shift, shift_all, lower_head, put, substitute_by, substitute_all_by, reduce, substitute, instance}
use Rattle.ab_term.specs.Beta.{Plain, atom, abstraction, application, shift_plain, put_plain, substitute_plain, beta, in_body, in_function, in_argument, BetaSteps, no_step, step, plain, plain_applied}
use Rattle.ab_term.proofs.Preservation.{Insert, here, there, shift_typed, reduce_typed, substitute_all_by_typed, left_type, head_type-lower, Applies, substitute_typed}

module _ {Var Hint : Type 0} where
  pub steps_then : {t u v : Plain Var Hint} → BetaSteps t u → BetaSteps u v → BetaSteps t v
  steps_then no_step s = s
  steps_then (step a r) s = step a (steps_then r s)

  steps_in_body : {A : Ty} {x : Hint} {t u : Plain Var Hint} → BetaSteps t u → BetaSteps (abstraction A x t) (abstraction A x u)
  steps_in_body no_step = no_step
  steps_in_body (step a r) = step (in_body a) (steps_in_body r)

  steps_in_function : {t u v : Plain Var Hint} → BetaSteps t u → BetaSteps (application t v) (application u v)
  steps_in_function no_step = no_step
  steps_in_function (step a r) = step (in_function a) (steps_in_function r)

  steps_in_argument : {t u v : Plain Var Hint} → BetaSteps t u → BetaSteps (application v t) (application v u)
  steps_in_argument no_step = no_step
  steps_in_argument (step a r) = step (in_argument a) (steps_in_argument r)

  -- steps before further arguments are given
  steps_applied : (ts : Terms Var Hint) {t u : Plain Var Hint} → BetaSteps t u → BetaSteps (plain_applied t ts) (plain_applied u ts)
  steps_applied no_terms s = s
  steps_applied (term t ts) s = steps_applied ts (steps_in_function s)

  mutual
    plain-shift : (t : Term Var Hint) (k : ℕ) → plain (shift k t) ≡ shift_plain k (plain t)
    plain-shift (lam A x t) k = ap (abstraction A x) (plain-shift t (suc k))
    plain-shift (spine h ts) k = plain_applied-shift ts (atom h) k

    pub plain_applied-shift : (ts : Terms Var Hint) (a : Plain Var Hint) (k : ℕ) → plain_applied (shift_plain k a) (shift_all k ts) ≡ shift_plain k (plain_applied a ts)
    plain_applied-shift no_terms a k = refl
    plain_applied-shift (term t ts) a k =
        ap (λ b. plain_applied (application (shift_plain k a) b) (shift_all k ts)) (plain-shift t k) ∙ plain_applied-shift ts (application a (plain t)) k

module _ (sg : Signature) {Var Hint : Type 0} where
  -- what `apply` makes of a term of the type A and arguments is reached by steps
  abbrev pub Follows : Ty → (Term Var Hint → Terms Var Hint → Term Var Hint) → Type 0
  Follows A apply = (G : List Ty) (u : Term Var Hint) (ts : Terms Var Hint) (c : List ℕ) → HasType sg G u A → TakeType sg G ts A (kind c) → BetaSteps (plain_applied (plain u) ts) (plain (apply u ts))

  put_follows : (A : Ty) (apply : Term Var Hint → Terms Var Hint → Term Var Hint) → Follows A apply → (G : List Ty) (u : Term Var Hint) → HasType sg G u A → (h : Option (Head Var)) (B : Ty) (ts : Terms Var Hint) (c : List ℕ) → left_type sg A G h ≡ Some B → TakeType sg G ts B (kind c)
      → BetaSteps (plain_applied (put_plain (plain u) h) ts) (plain (put apply u h ts))
  put_follows A apply ok G u d None B ts c e ds = let same : B ≡ A = cc in ok G u ts c d (rw same at ds)
  put_follows A apply ok G u d (Some h) B ts c e ds = no_step

  mutual
    substitute_by_follows : {k : ℕ} {A B : Ty} {G H : List Ty} {t : Term Var Hint} {apply : Term Var Hint → Terms Var Hint → Term Var Hint} {u : Term Var Hint} → Applies sg A apply → Follows A apply → HasType sg G u A → Insert k A G H → HasType sg H t B
        → BetaSteps (substitute_plain (plain u) k (plain t)) (plain (substitute_by apply u k t))
    substitute_by_follows {k = k} {apply = apply} {u = u} keeps ok d p (typed_lam {t = t} e) =
        steps_in_body (subst (λ v. BetaSteps (substitute_plain v (suc k) (plain t)) (plain (substitute_by apply (shift zero u) (suc k) t))) (plain-shift u zero)
        (substitute_by_follows keeps ok (shift_typed sg here d) (there p) e))
    substitute_by_follows {k = k} {A = A} {G = G} {apply = apply} {u = u} keeps ok d p (typed_spine {h = h} {k = c} e ds) =
        steps_then (substitute_all_by_follows keeps ok d p ds (atom h) (put_plain (plain u) (lower_head k h)) no_step)
        (put_follows A apply ok G u d (lower_head k h) _ _ c (sym (head_type-lower sg p h) ∙ e) (substitute_all_by_typed sg keeps d p ds))

    substitute_all_by_follows : {k : ℕ} {A B C : Ty} {G H : List Ty} {ts : Terms Var Hint} {apply : Term Var Hint → Terms Var Hint → Term Var Hint} {u : Term Var Hint} → Applies sg A apply → Follows A apply → HasType sg G u A → Insert k A G H → TakeType sg H ts B C
        → (a b : Plain Var Hint) → BetaSteps (substitute_plain (plain u) k a) b → BetaSteps (substitute_plain (plain u) k (plain_applied a ts)) (plain_applied b (substitute_all_by apply u k ts))
    substitute_all_by_follows keeps ok d p take_none a b s = s
    substitute_all_by_follows {k = k} {apply = apply} {u = u} keeps ok d p (take_term {t = t} e es) a b s =
        substitute_all_by_follows keeps ok d p es (application a (plain t)) (application b (plain (substitute_by apply u k t)))
        (steps_then (steps_in_function s) (steps_in_argument (substitute_by_follows keeps ok d p e)))

  pub reduce_follows : (A : Ty) → Follows A (reduce A)
  reduce_follows (kind k) G u _ _ d take_none = no_step
  reduce_follows (arrow A B) G _ _ c (typed_lam {t = t} d) (take_term {t = v} {ts = vs} e es) =
      steps_then (steps_applied vs (step beta (substitute_by_follows (reduce_typed sg A) (reduce_follows A) e here d)))
      (reduce_follows B G (substitute A v zero t) vs c (substitute_typed sg e here d) es)

  -- the law
  pub instance_follows : {A B : Ty} {G : List Ty} {t u : Term Var Hint} → HasType sg G t (arrow A B) → HasType sg G u A → BetaSteps (application (plain t) (plain u)) (plain (instance t u))
  instance_follows {A = A} (typed_lam d) e = step beta (substitute_by_follows (reduce_typed sg A) (reduce_follows A) e here d)
