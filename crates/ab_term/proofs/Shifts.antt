-- A shift goes through a shift and through a hereditary substitution.
use Rattle.std.proofs.Common.{◌≡◌, ℕ, zero, suc, ◌≤◌, Option, Some, None, option_map, refl, sym, ◌∙◌, ap, arith}
use Rattle.ab_term.specs.Types.{Ty, kind, arrow}
use Rattle.ab_term.specs.Terms.{Head, constant, logical, nominal, variable, index, Term, lam, spine, Terms, no_terms, term}
use Rattle.ab_term.specs.Substitution.{shift_index, shift_head, shift, shift_all, lower_index, lower_head, put, substitute_by, substitute_all_by, reduce, substitute}

shift_index-shift_index : (j k i : ℕ) → j ≤ k → shift_index (suc k) (shift_index j i) ≡ shift_index j (shift_index k i)
shift_index-shift_index zero k i h = refl
shift_index-shift_index (suc j) zero i h = absurd (omega arith)
shift_index-shift_index (suc j) (suc k) zero h = refl
shift_index-shift_index (suc j) (suc k) (suc i) h = ap suc (shift_index-shift_index j k i (omega arith))

pub lower_index-shift_index : (k i : ℕ) → lower_index k (shift_index k i) ≡ Some i
lower_index-shift_index zero i = refl
lower_index-shift_index (suc k) zero = refl
lower_index-shift_index (suc k) (suc i) = ap (option_map suc) (lower_index-shift_index k i)

map_suc-shift : (j : ℕ) (o : Option ℕ) → option_map suc (option_map (shift_index j) o) ≡ option_map (shift_index (suc j)) (option_map suc o)
map_suc-shift j None = refl
map_suc-shift j (Some i) = refl

lower_index-shift_low : (j k i : ℕ) → j ≤ k → lower_index (suc k) (shift_index j i) ≡ option_map (shift_index j) (lower_index k i)
lower_index-shift_low zero k i h = map_suc (lower_index k i)
  where
    map_suc : (o : Option ℕ) → option_map suc o ≡ option_map (shift_index zero) o
    map_suc None = refl
    map_suc (Some i) = refl
lower_index-shift_low (suc j) zero i h = absurd (omega arith)
lower_index-shift_low (suc j) (suc k) zero h = refl
lower_index-shift_low (suc j) (suc k) (suc i) h = ap (option_map suc) (lower_index-shift_low j k i (omega arith)) ∙ map_suc-shift j (lower_index k i)

lower_index-shift_high : (j k i : ℕ) → k ≤ j → lower_index k (shift_index (suc j) i) ≡ option_map (shift_index j) (lower_index k i)
lower_index-shift_high j zero zero h = refl
lower_index-shift_high j zero (suc i) h = refl
lower_index-shift_high zero (suc k) i h = absurd (omega arith)
lower_index-shift_high (suc j) (suc k) zero h = refl
lower_index-shift_high (suc j) (suc k) (suc i) h = ap (option_map suc) (lower_index-shift_high j k i (omega arith)) ∙ map_suc-shift j (lower_index k i)

map_index-shift : (Var : Type 0) (j : ℕ) (o : Option ℕ) → option_map {U = Head Var} index (option_map (shift_index j) o) ≡ option_map (shift_head j) (option_map index o)
map_index-shift Var j None = refl
map_index-shift Var j (Some i) = refl

module _ {Var : Type 0} where
  pub shift_head-shift_head : (j k : ℕ) (h : Head Var) → j ≤ k → shift_head (suc k) (shift_head j h) ≡ shift_head j (shift_head k h)
  shift_head-shift_head j k (constant c) l = refl
  shift_head-shift_head j k (logical m) l = refl
  shift_head-shift_head j k (nominal a) l = refl
  shift_head-shift_head j k (variable y) l = refl
  shift_head-shift_head j k (index i) l = ap index (shift_index-shift_index j k i l)

  pub lower_head-shift_head : (k : ℕ) (h : Head Var) → lower_head k (shift_head k h) ≡ Some h
  lower_head-shift_head k (constant c) = refl
  lower_head-shift_head k (logical l) = refl
  lower_head-shift_head k (nominal a) = refl
  lower_head-shift_head k (variable y) = refl
  lower_head-shift_head k (index i) = ap (option_map index) (lower_index-shift_index k i)

  pub lower_head-shift_low : (j k : ℕ) (h : Head Var) → j ≤ k → lower_head (suc k) (shift_head j h) ≡ option_map (shift_head j) (lower_head k h)
  lower_head-shift_low j k (constant c) l = refl
  lower_head-shift_low j k (logical m) l = refl
  lower_head-shift_low j k (nominal a) l = refl
  lower_head-shift_low j k (variable y) l = refl
  lower_head-shift_low j k (index i) l = ap (option_map index) (lower_index-shift_low j k i l) ∙ map_index-shift Var j (lower_index k i)

  lower_head-shift_high : (j k : ℕ) (h : Head Var) → k ≤ j → lower_head k (shift_head (suc j) h) ≡ option_map (shift_head j) (lower_head k h)
  lower_head-shift_high j k (constant c) l = refl
  lower_head-shift_high j k (logical m) l = refl
  lower_head-shift_high j k (nominal a) l = refl
  lower_head-shift_high j k (variable y) l = refl
  lower_head-shift_high j k (index i) l = ap (option_map index) (lower_index-shift_high j k i l) ∙ map_index-shift Var j (lower_index k i)

module _ {Var Hint : Type 0} where
  mutual
    pub shift-shift : (t : Term Var Hint) (j k : ℕ) → j ≤ k → shift (suc k) (shift j t) ≡ shift j (shift k t)
    shift-shift (lam A x t) j k l = ap (lam A x) (shift-shift t (suc j) (suc k) (omega arith))
    shift-shift (spine h ts) j k l = ap (λ g. spine g (shift_all (suc k) (shift_all j ts))) (shift_head-shift_head j k h l) ∙ ap (spine (shift_head j (shift_head k h))) (shift_all-shift_all ts j k l)

    pub shift_all-shift_all : (ts : Terms Var Hint) (j k : ℕ) → j ≤ k → shift_all (suc k) (shift_all j ts) ≡ shift_all j (shift_all k ts)
    shift_all-shift_all no_terms j k l = refl
    shift_all-shift_all (term t ts) j k l = ap (λ s. term s (shift_all (suc k) (shift_all j ts))) (shift-shift t j k l) ∙ ap (term (shift j (shift k t))) (shift_all-shift_all ts j k l)

  mutual
    pub substitute_by-shift : (t : Term Var Hint) (r : Term Var Hint → Terms Var Hint → Term Var Hint) (u : Term Var Hint) (k : ℕ) → substitute_by r u k (shift k t) ≡ t
    substitute_by-shift (lam A x t) r u k = ap (lam A x) (substitute_by-shift t r (shift zero u) (suc k))
    substitute_by-shift (spine h ts) r u k = ap (λ o. put r u o (substitute_all_by r u k (shift_all k ts))) (lower_head-shift_head k h) ∙ ap (spine h) (substitute_all_by-shift ts r u k)

    pub substitute_all_by-shift : (ts : Terms Var Hint) (r : Term Var Hint → Terms Var Hint → Term Var Hint) (u : Term Var Hint) (k : ℕ) → substitute_all_by r u k (shift_all k ts) ≡ ts
    substitute_all_by-shift no_terms r u k = refl
    substitute_all_by-shift (term t ts) r u k = ap (λ s. term s (substitute_all_by r u k (shift_all k ts))) (substitute_by-shift t r u k) ∙ ap (term t) (substitute_all_by-shift ts r u k)

  -- a shift goes through r
  abbrev pub ShiftsThrough : (Term Var Hint → Terms Var Hint → Term Var Hint) → Type 0
  ShiftsThrough r = (j : ℕ) (u : Term Var Hint) (ts : Terms Var Hint) → shift j (r u ts) ≡ r (shift j u) (shift_all j ts)

  shift-put : (r : Term Var Hint → Terms Var Hint → Term Var Hint) → ShiftsThrough r → (j : ℕ) (u : Term Var Hint) (o : Option (Head Var)) (ts : Terms Var Hint) → shift j (put r u o ts) ≡ put r (shift j u) (option_map (shift_head j) o) (shift_all j ts)
  shift-put r through j u None ts = through j u ts
  shift-put r through j u (Some h) ts = refl

  mutual
    pub shift-substitute_low : (t : Term Var Hint) (r : Term Var Hint → Terms Var Hint → Term Var Hint) (u : Term Var Hint) (j k : ℕ) → ShiftsThrough r → j ≤ k → shift j (substitute_by r u k t) ≡ substitute_by r (shift j u) (suc k) (shift j t)
    shift-substitute_low (lam A x t) r u j k through l =
        ap (lam A x) (shift-substitute_low t r (shift zero u) (suc j) (suc k) through (omega arith) ∙ ap (λ s. substitute_by r s (suc (suc k)) (shift (suc j) t)) (shift-shift u zero j (omega arith)))
    shift-substitute_low (spine h ts) r u j k through l =
        shift-put r through j u (lower_head k h) (substitute_all_by r u k ts)
        ∙ ap (λ o. put r (shift j u) o (shift_all j (substitute_all_by r u k ts))) (sym (lower_head-shift_low j k h l))
        ∙ ap (put r (shift j u) (lower_head (suc k) (shift_head j h))) (shift_all-substitute_low ts r u j k through l)

    pub shift_all-substitute_low : (ts : Terms Var Hint) (r : Term Var Hint → Terms Var Hint → Term Var Hint) (u : Term Var Hint) (j k : ℕ) → ShiftsThrough r → j ≤ k → shift_all j (substitute_all_by r u k ts) ≡ substitute_all_by r (shift j u) (suc k) (shift_all j ts)
    shift_all-substitute_low no_terms r u j k through l = refl
    shift_all-substitute_low (term t ts) r u j k through l = ap (λ s. term s (shift_all j (substitute_all_by r u k ts))) (shift-substitute_low t r u j k through l) ∙ ap (term (substitute_by r (shift j u) (suc k) (shift j t))) (shift_all-substitute_low ts r u j k through l)

  mutual
    pub shift-substitute_high : (t : Term Var Hint) (r : Term Var Hint → Terms Var Hint → Term Var Hint) (u : Term Var Hint) (j k : ℕ) → ShiftsThrough r → k ≤ j → shift j (substitute_by r u k t) ≡ substitute_by r (shift j u) k (shift (suc j) t)
    shift-substitute_high (lam A x t) r u j k through l =
        ap (lam A x) (shift-substitute_high t r (shift zero u) (suc j) (suc k) through (omega arith) ∙ ap (λ s. substitute_by r s (suc k) (shift (suc (suc j)) t)) (shift-shift u zero j (omega arith)))
    shift-substitute_high (spine h ts) r u j k through l =
        shift-put r through j u (lower_head k h) (substitute_all_by r u k ts)
        ∙ ap (λ o. put r (shift j u) o (shift_all j (substitute_all_by r u k ts))) (sym (lower_head-shift_high j k h l))
        ∙ ap (put r (shift j u) (lower_head k (shift_head (suc j) h))) (shift_all-substitute_high ts r u j k through l)

    pub shift_all-substitute_high : (ts : Terms Var Hint) (r : Term Var Hint → Terms Var Hint → Term Var Hint) (u : Term Var Hint) (j k : ℕ) → ShiftsThrough r → k ≤ j → shift_all j (substitute_all_by r u k ts) ≡ substitute_all_by r (shift j u) k (shift_all (suc j) ts)
    shift_all-substitute_high no_terms r u j k through l = refl
    shift_all-substitute_high (term t ts) r u j k through l = ap (λ s. term s (shift_all j (substitute_all_by r u k ts))) (shift-substitute_high t r u j k through l) ∙ ap (term (substitute_by r (shift j u) k (shift (suc j) t))) (shift_all-substitute_high ts r u j k through l)

  pub shift-reduce : (A : Ty) → ShiftsThrough (reduce A)
  shift-reduce (kind c) j u ts = refl
  shift-reduce (arrow A B) j (lam C x t) no_terms = refl
  shift-reduce (arrow A B) j (lam C x t) (term v vs) =
      shift-reduce B j (substitute A v zero t) vs ∙ ap (λ s. reduce B s (shift_all j vs)) (shift-substitute_high t (reduce A) v j zero (shift-reduce A) (omega arith))
  shift-reduce (arrow A B) j (spine h ss) ts = refl
