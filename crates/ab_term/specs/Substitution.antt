-- Hereditary substitution, textbook style: a term for a bound name, in which a head that becomes an abstraction
-- is applied to its arguments at once. It is a recursion on the type of what is put in, and for one type
-- on the term: two plain recursions, of which the second has the application of the first as a parameter.
use Rattle.std.specs.Prelude.{ℕ, zero, suc, List, [], ◌∷◌, Option, Some, None, option_map}
use Rattle.ab_term.specs.Types.{Ty, kind, arrow}
use Rattle.ab_term.specs.Terms.{Head, constant, logical, nominal, variable, index, Term, lam, spine, Terms, no_terms, term}

-- an index, where a binder is put in at k
abbrev pub shift_index : ℕ → ℕ → ℕ
shift_index zero i = suc i
shift_index (suc k) zero = zero
shift_index (suc k) (suc i) = suc (shift_index k i)

-- an index, where the binder at k goes; `None` for k itself
abbrev pub lower_index : ℕ → ℕ → Option ℕ
lower_index zero zero = None
lower_index zero (suc i) = Some i
lower_index (suc k) zero = Some zero
lower_index (suc k) (suc i) = option_map suc (lower_index k i)

module _ {Var : Type 0} where
  abbrev pub shift_head : ℕ → Head Var → Head Var
  shift_head k (constant c) = constant c
  shift_head k (logical l) = logical l
  shift_head k (nominal a) = nominal a
  shift_head k (variable x) = variable x
  shift_head k (index i) = index (shift_index k i)

  abbrev pub lower_head : ℕ → Head Var → Option (Head Var)
  lower_head k (constant c) = Some (constant c)
  lower_head k (logical l) = Some (logical l)
  lower_head k (nominal a) = Some (nominal a)
  lower_head k (variable x) = Some (variable x)
  lower_head k (index i) = option_map index (lower_index k i)

module _ {Var Hint : Type 0} where
  -- a term, where a binder is put in at k
  abbrev mutual
    pub shift : ℕ → Term Var Hint → Term Var Hint
    shift k (lam A x t) = lam A x (shift (suc k) t)
    shift k (spine h ts) = spine (shift_head k h) (shift_all k ts)

    pub shift_all : ℕ → Terms Var Hint → Terms Var Hint
    shift_all k no_terms = no_terms
    shift_all k (term t ts) = term (shift k t) (shift_all k ts)

  -- the head stays, or is the name for which u is put in, and `apply` gives u the arguments
  abbrev pub put : (Term Var Hint → Terms Var Hint → Term Var Hint) → Term Var Hint → Option (Head Var) → Terms Var Hint → Term Var Hint
  put apply u None ts = apply u ts
  put apply u (Some h) ts = spine h ts

  -- u for the index k
  abbrev mutual
    pub substitute_by : (Term Var Hint → Terms Var Hint → Term Var Hint) → Term Var Hint → ℕ → Term Var Hint → Term Var Hint
    substitute_by apply u k (lam A x t) = lam A x (substitute_by apply (shift zero u) (suc k) t)
    substitute_by apply u k (spine h ts) = put apply u (lower_head k h) (substitute_all_by apply u k ts)

    pub substitute_all_by : (Term Var Hint → Terms Var Hint → Term Var Hint) → Term Var Hint → ℕ → Terms Var Hint → Terms Var Hint
    substitute_all_by apply u k no_terms = no_terms
    substitute_all_by apply u k (term t ts) = term (substitute_by apply u k t) (substitute_all_by apply u k ts)

  -- a term of the type, given arguments; one that can't take them stays
  abbrev pub reduce : Ty → Term Var Hint → Terms Var Hint → Term Var Hint
  reduce (kind k) u ts = u
  reduce (arrow A B) (lam C x t) (term v vs) = reduce B (substitute_by (reduce A) v zero t) vs
  reduce (arrow A B) u ts = u

  -- u, of the type A, for the index k
  abbrev pub substitute : Ty → Term Var Hint → ℕ → Term Var Hint → Term Var Hint
  substitute A = substitute_by (reduce A)

  abbrev pub substitute_all : Ty → Term Var Hint → ℕ → Terms Var Hint → Terms Var Hint
  substitute_all A = substitute_all_by (reduce A)

  -- u for the outermost bound name of t
  abbrev pub instance : Term Var Hint → Term Var Hint → Term Var Hint
  instance (lam A x t) u = substitute A u zero t
  instance (spine h ts) u = spine h ts

  -- the terms of the list for the outermost bound names, one after another
  abbrev pub instance_by_all : Term Var Hint → List (Term Var Hint) → Term Var Hint
  instance_by_all t [] = t
  instance_by_all t (u ∷ us) = instance_by_all (instance t u) us
