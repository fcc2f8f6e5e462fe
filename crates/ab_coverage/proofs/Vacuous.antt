-- Where two formulas are the same but for outermost `exists` whose name doesn't stand in the body, they are the same
-- once all such are left out.
use Rattle.std.proofs.Common.{◌≡◌, ℕ, zero, suc, ◌≤◌, Bool, true, false, cond, ◌||◌, Option, Some, None, option_map, refl, sym, ◌∙◌, ap, arith}
use Rattle.ab_term.specs.Types.{Ty}
use Rattle.ab_term.specs.Logical.{existential}
use Rattle.ab_term.specs.Terms.{Head, constant, logical, nominal, variable, index, Term, lam, spine, Terms, no_terms, term}
use Rattle.ab_term.specs.Substitution.{shift_index, lower_index, shift_head, lower_head, shift, shift_all}
use Rattle.ab_term.proofs.Shifts.{shift-shift, lower_head-shift_low}
use Rattle.ab_coverage.proofs.IndexedGoals.{for_some, is_binder_at, stands, stands_all, lower, without_vacuous}
use Rattle.ab_coverage.proofs.Lowered.{lowered, stands-shift, lower-shift}
use Rattle.ab_coverage.proofs.Nearly.{Nearly, alike, inside, left_out, right_out}

or_false : (b : Bool) → (b || false) ≡ b
or_false true = refl
or_false false = refl

abbrev is_none : Option ℕ → Bool
is_none None = true
is_none (Some i) = false

none_suc : (o : Option ℕ) → is_none (option_map suc o) ≡ is_none o
none_suc None = refl
none_suc (Some i) = refl

index_high : (j k i : ℕ) → j ≤ k → is_none (lower_index j (shift_index (suc k) i)) ≡ is_none (lower_index j i)
index_high zero k zero l = refl
index_high zero k (suc i) l = refl
index_high (suc j) zero i l = absurd (omega (arith, l))
index_high (suc j) (suc k) zero l = refl
index_high (suc j) (suc k) (suc i) l = none_suc (lower_index j (shift_index (suc k) i)) ∙ index_high j k i (omega (arith, l)) ∙ sym (none_suc (lower_index j i))

binder_index : (Var : Type 0) (o : Option ℕ) → is_binder_at {Var = Var} (option_map index o) ≡ is_none o
binder_index Var None = refl
binder_index Var (Some i) = refl

module _ {Var : Type 0} where
  head_high : (j k : ℕ) (h : Head Var) → j ≤ k → is_binder_at (lower_head j (shift_head (suc k) h)) ≡ is_binder_at (lower_head j h)
  head_high j k (constant c) l = refl
  head_high j k (logical m) l = refl
  head_high j k (nominal a) l = refl
  head_high j k (variable y) l = refl
  head_high j k (index i) l = binder_index Var (lower_index j (shift_index (suc k) i)) ∙ index_high j k i l ∙ sym (binder_index Var (lower_index j i))

  mapped_binder : (j : ℕ) (o : Option (Head Var)) → is_binder_at (option_map (shift_head j) o) ≡ is_binder_at o
  mapped_binder j None = refl
  mapped_binder j (Some h) = refl

module _ {Var Hint : Type 0} where
  -- a shift further out, and further in, changes nothing of what stands
  mutual
    stands-high : (j k : ℕ) (t : Term Var Hint) → j ≤ k → stands j (shift (suc k) t) ≡ stands j t
    stands-high j k (lam A x t) l = stands-high (suc j) (suc k) t (omega (arith, l))
    stands-high j k (spine h ts) l = ap (λ b. b || stands_all j (shift_all (suc k) ts)) (head_high j k h l) ∙ ap (λ b. is_binder_at (lower_head j h) || b) (stands_all-high j k ts l)

    stands_all-high : (j k : ℕ) (ts : Terms Var Hint) → j ≤ k → stands_all j (shift_all (suc k) ts) ≡ stands_all j ts
    stands_all-high j k no_terms l = refl
    stands_all-high j k (term t ts) l = ap (λ b. b || stands_all j (shift_all (suc k) ts)) (stands-high j k t l) ∙ ap (λ b. stands j t || b) (stands_all-high j k ts l)

  mutual
    stands-low : (j k : ℕ) (t : Term Var Hint) → j ≤ k → stands (suc k) (shift j t) ≡ stands k t
    stands-low j k (lam A x t) l = stands-low (suc j) (suc k) t (omega (arith, l))
    stands-low j k (spine h ts) l =
        ap (λ b. b || stands_all (suc k) (shift_all j ts)) (ap is_binder_at (lower_head-shift_low j k h l) ∙ mapped_binder j (lower_head k h))
        ∙ ap (λ b. is_binder_at (lower_head k h) || b) (stands_all-low j k ts l)

    stands_all-low : (j k : ℕ) (ts : Terms Var Hint) → j ≤ k → stands_all (suc k) (shift_all j ts) ≡ stands_all k ts
    stands_all-low j k no_terms l = refl
    stands_all-low j k (term t ts) l = ap (λ b. b || stands_all (suc k) (shift_all j ts)) (stands-low j k t l) ∙ ap (λ b. stands k t || b) (stands_all-low j k ts l)

  nearly-stands : (k : ℕ) {t u : Term Var Hint} → Nearly t u → stands k t ≡ stands k u
  nearly-stands k alike = refl
  nearly-stands k (inside n) = ap (λ b. b || false) (nearly-stands (suc k) n)
  nearly-stands k (left_out {t = t} n) = or_false (stands (suc k) (shift zero t)) ∙ stands-low zero k t (omega arith) ∙ nearly-stands k n
  nearly-stands k (right_out {u = u} n) = nearly-stands k n ∙ sym (or_false (stands (suc k) (shift zero u)) ∙ stands-low zero k u (omega arith))

module _ {Hint : Type 0} where
  still_absent : (k : ℕ) (t : Term ℕ Hint) → stands k t ≡ false → stands k (without_vacuous t) ≡ false
  still_absent k (spine (logical (existential A)) (term (lam B x F) no_terms)) e = go (stands zero F) refl (still_absent (suc k) F (sym (or_false (stands (suc k) F)) ∙ e)) (λ g. still_absent zero F g)
    where
      go : (b : Bool) → stands zero F ≡ b → stands (suc k) (without_vacuous F) ≡ false → (stands zero F ≡ false → stands zero (without_vacuous F) ≡ false)
          → stands k (cond b (spine (logical (existential A)) (term (lam B x (without_vacuous F)) no_terms)) (lower zero (without_vacuous F))) ≡ false
      go true g inner rest = or_false (stands (suc k) (without_vacuous F)) ∙ inner
      go false g inner rest =
          let W = lower zero (without_vacuous F) in
          let whole : without_vacuous F ≡ shift zero W = lowered zero (without_vacuous F) (rest g) in
          sym (stands-low zero k W (omega arith)) ∙ ap (stands (suc k)) (sym whole) ∙ inner
  still_absent k t e = e

  pub vacuous-shift : (k : ℕ) (t : Term ℕ Hint) → without_vacuous (shift k t) ≡ shift k (without_vacuous t)
  vacuous-shift k (spine (logical (existential A)) (term (lam B x F) no_terms)) =
      ap (λ b. cond b (spine (logical (existential A)) (term (lam B x (without_vacuous (shift (suc k) F))) no_terms)) (lower zero (without_vacuous (shift (suc k) F)))) (stands-high zero k F (omega arith))
      ∙ ap (λ t. cond (stands zero F) (spine (logical (existential A)) (term (lam B x t) no_terms)) (lower zero t)) (vacuous-shift (suc k) F)
      ∙ go (stands zero F) refl
    where
      go : (b : Bool) → stands zero F ≡ b
          → cond b (spine (logical (existential A)) (term (lam B x (shift (suc k) (without_vacuous F))) no_terms)) (lower zero (shift (suc k) (without_vacuous F)))
          ≡ shift k (cond b (spine (logical (existential A)) (term (lam B x (without_vacuous F)) no_terms)) (lower zero (without_vacuous F)))
      go true g = refl
      go false g =
          let W = lower zero (without_vacuous F) in
          let whole : without_vacuous F ≡ shift zero W = lowered zero (without_vacuous F) (still_absent zero F g) in
          ap (λ t. lower zero (shift (suc k) t)) whole ∙ ap (lower zero) (shift-shift W zero k (omega arith)) ∙ lower-shift zero (shift k W)
  vacuous-shift k t = refl

  one_out : (A : Ty) (x : Hint) (t : Term ℕ Hint) → without_vacuous (for_some A x (shift zero t)) ≡ without_vacuous t
  one_out A x t =
      ap (λ b. cond b (for_some A x (without_vacuous (shift zero t))) (lower zero (without_vacuous (shift zero t)))) (stands-shift zero t)
      ∙ ap (lower zero) (vacuous-shift zero t) ∙ lower-shift zero (without_vacuous t)

  pub nearly-same : {t u : Term ℕ Hint} → Nearly t u → without_vacuous t ≡ without_vacuous u
  nearly-same alike = refl
  nearly-same (inside {A = A} {x = x} {t = t} {u = u} n) =
      ap (λ b. cond b (for_some A x (without_vacuous t)) (lower zero (without_vacuous t))) (nearly-stands zero n)
      ∙ ap (λ v. cond (stands zero u) (for_some A x v) (lower zero v)) (nearly-same n)
  nearly-same (left_out {A = A} {x = x} {t = t} n) = one_out A x t ∙ nearly-same n
  nearly-same (right_out {A = A} {x = x} {u = u} n) = nearly-same n ∙ sym (one_out A x u)
