-- Closed terms for variables: the reach doesn't grow, and shifts go through.
use Rattle.std.proofs.Common.{◌≡◌, ℕ, zero, suc, ◌≤◌, Option, Some, None, refl, sym, ◌∙◌, ap, arith}
use Rattle.ab_term.specs.Terms.{Variable, Head, constant, logical, nominal, variable, index, Term, lam, spine, Terms, no_terms, term}
use Rattle.ab_term.specs.Substitution.{shift_head, shift, shift_all, reduce}
use Rattle.ab_term.specs.Variables.{put_for, put_at, image_by, image_all_by}
use Rattle.ab_term.specs.Reach.{head_reach, reach, reach_of_all, raise}
use Rattle.ab_term.proofs.Shifts.{shift-reduce}
use Rattle.ab_term.proofs.Reaching.{shift-short, raise-none, raise-more}
use Rattle.ab_term.proofs.Reached.{reduce_below}

-- what f puts in has no free index
abbrev pub IsClosedMap : {Var Hint : Type 0} → (Variable Var → Option (Term Var Hint)) → Type 0
IsClosedMap {Var = Var} {Hint = Hint} f = (y : Variable Var) (u : Term Var Hint) → f y ≡ Some u → reach u ≤ 0

module _ {Var Hint : Type 0} (f : Variable Var → Option (Term Var Hint)) (closed : IsClosedMap f) where
  put_for_below : (n : ℕ) (y : Variable Var) (o : Option (Term Var Hint)) → f y ≡ o → (ts : Terms Var Hint) → reach_of_all ts ≤ n → reach (put_for y o ts) ≤ n
  put_for_below n y None e ts l = omega (arith, l)
  put_for_below n y (Some u) e ts l = reduce_below y.type n u ts (omega (arith, closed y u e)) l

  put_at_below : (n : ℕ) (h : Head Var) (ts : Terms Var Hint) → head_reach h ≤ n → reach_of_all ts ≤ n → reach (put_at f h ts) ≤ n
  put_at_below n (constant c) ts l m = omega (arith, m)
  put_at_below n (logical c) ts l m = omega (arith, m)
  put_at_below n (nominal a) ts l m = omega (arith, m)
  put_at_below n (variable y) ts l m = put_for_below n y (f y) refl ts m
  put_at_below n (index i) ts l m = omega (arith, l, m)

  mutual
    pub image_by_below : (n : ℕ) (t : Term Var Hint) → reach t ≤ n → reach (image_by f t) ≤ n
    image_by_below n (lam A x t) l = omega (arith, image_by_below (suc n) t (omega (arith, l)))
    image_by_below n (spine h ts) l = put_at_below n h (image_all_by f ts) (omega (arith, l)) (image_all_by_below n ts (omega (arith, l)))

    image_all_by_below : (n : ℕ) (ts : Terms Var Hint) → reach_of_all ts ≤ n → reach_of_all (image_all_by f ts) ≤ n
    image_all_by_below n no_terms l = omega arith
    image_all_by_below n (term t ts) l = omega (arith, image_by_below n t (omega (arith, l)), image_all_by_below n ts (omega (arith, l)))

  -- the reach doesn't grow
  pub image_reach : (t : Term Var Hint) → reach (image_by f t) ≤ reach t
  image_reach t = image_by_below (reach t) t (omega arith)

  shift-put_for : (j : ℕ) (x : Variable Var) (o : Option (Term Var Hint)) → f x ≡ o → (ts : Terms Var Hint) → shift j (put_for x o ts) ≡ put_for x o (shift_all j ts)
  shift-put_for j x None e ts = refl
  shift-put_for j x (Some u) e ts =
      let small : reach u ≤ 0 = closed x u e in
      shift-reduce x.type j u ts ∙ ap (λ w. reduce x.type w (shift_all j ts)) (shift-short u j (omega arith))

  shift-put_at : (j : ℕ) (h : Head Var) (ts : Terms Var Hint) → shift j (put_at f h ts) ≡ put_at f (shift_head j h) (shift_all j ts)
  shift-put_at j (constant c) ts = refl
  shift-put_at j (logical l) ts = refl
  shift-put_at j (nominal a) ts = refl
  shift-put_at j (variable x) ts = shift-put_for j x (f x) refl ts
  shift-put_at j (index i) ts = refl

  mutual
    pub shift-image : (t : Term Var Hint) (j : ℕ) → shift j (image_by f t) ≡ image_by f (shift j t)
    shift-image (lam A x t) j = ap (lam A x) (shift-image t (suc j))
    shift-image (spine h ts) j = shift-put_at j h (image_all_by f ts) ∙ ap (put_at f (shift_head j h)) (shift_all-image_all ts j)

    pub shift_all-image_all : (ts : Terms Var Hint) (j : ℕ) → shift_all j (image_all_by f ts) ≡ image_all_by f (shift_all j ts)
    shift_all-image_all no_terms j = refl
    shift_all-image_all (term t ts) j = ap (λ s. term s (shift_all j (image_all_by f ts))) (shift-image t j) ∙ ap (term (image_by f (shift j t))) (shift_all-image_all ts j)

  -- several binders at once
  pub raise-image : (t : Term Var Hint) (d k : ℕ) → raise d k (image_by f t) ≡ image_by f (raise d k t)
  raise-image t zero k = raise-none (image_by f t) k ∙ ap (image_by f) (sym (raise-none t k))
  raise-image t (suc d) k =
      raise-more (image_by f t) d k
      ∙ ap (shift k) (raise-image t d k)
      ∙ shift-image (raise d k t) k
      ∙ ap (image_by f) (sym (raise-more t d k))
