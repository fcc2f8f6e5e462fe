-- Formulas that are the same but for outermost `exists` whose name doesn't stand in the body.
use Rattle.std.proofs.Common.{ℕ, zero, suc, sym, subst, arith}
use Rattle.ab_term.specs.Types.{Ty}
use Rattle.ab_term.specs.Terms.{Term}
use Rattle.ab_term.specs.Substitution.{shift, substitute}
use Rattle.ab_term.proofs.Shifts.{substitute_by-shift, shift-substitute_low, shift-reduce}
use Rattle.ab_coverage.proofs.IndexedGoals.{for_some, full}
use Rattle.ab_coverage.proofs.Opening.{full-shift}

module _ {Var Hint : Type 0} where
  pub data Nearly : Term Var Hint → Term Var Hint → Type 0 where
    alike : {t : Term Var Hint} → Nearly t t
    inside : {A : Ty} {x : Hint} {t u : Term Var Hint} → Nearly t u → Nearly (for_some A x t) (for_some A x u)
    left_out : {A : Ty} {x : Hint} {t u : Term Var Hint} → Nearly t u → Nearly (for_some A x (shift zero t)) u
    right_out : {A : Ty} {x : Hint} {t u : Term Var Hint} → Nearly t u → Nearly t (for_some A x (shift zero u))

  pub nearly-substitute : (A : Ty) (v : Term Var Hint) (k : ℕ) {t u : Term Var Hint} → Nearly t u → Nearly (substitute A v k t) (substitute A v k u)
  nearly-substitute A v k alike = alike
  nearly-substitute A v k (inside n) = inside (nearly-substitute A (shift zero v) (suc k) n)
  nearly-substitute A v k (left_out {A = C} {x = x} {t = t} {u = u} n) =
      subst (λ w. Nearly (for_some C x w) (substitute A v k u)) (shift-substitute_low t _ v zero k (shift-reduce A) (omega arith)) (left_out (nearly-substitute A v k n))
  nearly-substitute A v k (right_out {A = C} {x = x} {t = t} {u = u} n) =
      subst (λ w. Nearly (substitute A v k t) (for_some C x w)) (shift-substitute_low u _ v zero k (shift-reduce A) (omega arith)) (right_out (nearly-substitute A v k n))

  pub nearly-full : {t u : Term Var Hint} → Nearly t u → Nearly (full t) (full u)
  nearly-full alike = alike
  nearly-full (inside n) = inside (nearly-full n)
  nearly-full (left_out {A = C} {x = x} {t = t} {u = u} n) = subst (λ w. Nearly (for_some C x w) (full u)) (sym (full-shift t zero)) (left_out (nearly-full n))
  nearly-full (right_out {A = C} {x = x} {t = t} {u = u} n) = subst (λ w. Nearly (full t) (for_some C x w)) (sym (full-shift u zero)) (right_out (nearly-full n))

  pub nearly-back : (t u : Term Var Hint) → Nearly (shift zero t) (shift zero u) → (A : Ty) → Nearly t u
  nearly-back t u n A =
      subst (λ w. Nearly w u) (substitute_by-shift t _ t zero) (subst (Nearly (substitute A t zero (shift zero t))) (substitute_by-shift u _ t zero) (nearly-substitute A t zero n))
