-- Terms that may hold redexes, and single beta steps on them, as in any textbook of the lambda calculus.
use Rattle.std.specs.Prelude.{ℕ, zero, suc, Option, Some, None}
use Rattle.ab_term.specs.Types.{Ty}
use Rattle.ab_term.specs.Terms.{Head, Term, lam, spine, Terms, no_terms, term}
use Rattle.ab_term.specs.Substitution.{shift_head, lower_head}

pub data Plain (Var Hint : Type 0) : Type 0 where
  atom : Head Var → Plain Var Hint
  abstraction : Ty → Hint → Plain Var Hint → Plain Var Hint
  application : Plain Var Hint → Plain Var Hint → Plain Var Hint

module _ {Var Hint : Type 0} where
  -- a binder is put in at k
  abbrev pub shift_plain : ℕ → Plain Var Hint → Plain Var Hint
  shift_plain k (atom h) = atom (shift_head k h)
  shift_plain k (abstraction A x t) = abstraction A x (shift_plain (suc k) t)
  shift_plain k (application t u) = application (shift_plain k t) (shift_plain k u)

  abbrev pub put_plain : Plain Var Hint → Option (Head Var) → Plain Var Hint
  put_plain v None = v
  put_plain v (Some h) = atom h

  -- v for the index k
  abbrev pub substitute_plain : Plain Var Hint → ℕ → Plain Var Hint → Plain Var Hint
  substitute_plain v k (atom h) = put_plain v (lower_head k h)
  substitute_plain v k (abstraction A x t) = abstraction A x (substitute_plain (shift_plain zero v) (suc k) t)
  substitute_plain v k (application t u) = application (substitute_plain v k t) (substitute_plain v k u)

  -- one redex, anywhere, gives way to what it reduces to
  pub data BetaStep : Plain Var Hint → Plain Var Hint → Type 0 where
    beta : {A : Ty} {x : Hint} {t u : Plain Var Hint} → BetaStep (application (abstraction A x t) u) (substitute_plain u zero t)
    in_body : {A : Ty} {x : Hint} {t u : Plain Var Hint} → BetaStep t u → BetaStep (abstraction A x t) (abstraction A x u)
    in_function : {t u v : Plain Var Hint} → BetaStep t u → BetaStep (application t v) (application u v)
    in_argument : {t u v : Plain Var Hint} → BetaStep t u → BetaStep (application v t) (application v u)

  -- any number of single steps
  pub data BetaSteps : Plain Var Hint → Plain Var Hint → Type 0 where
    no_step : {t : Plain Var Hint} → BetaSteps t t
    step : {t u v : Plain Var Hint} → BetaStep t u → BetaSteps u v → BetaSteps t v

  -- a canonical term as such a term
  abbrev mutual
    pub plain : Term Var Hint → Plain Var Hint
    plain (lam A x t) = abstraction A x (plain t)
    plain (spine h ts) = plain_applied (atom h) ts

    pub plain_applied : Plain Var Hint → Terms Var Hint → Plain Var Hint
    plain_applied t no_terms = t
    plain_applied t (term u us) = plain_applied (application t (plain u)) us
