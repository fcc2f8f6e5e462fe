-- The least constant that the rules take for the name of a `nabla` is there.
use Rattle.std.proofs.Common.{◌≡◌, ◌⊎◌, inl, inr, ℕ, zero, suc, ◌+◌, ◌<◌, ◌≤◌, List, [], ◌∷◌, Bool, true, false, refl, sym, ◌∙◌, subst, arith}
use Rattle.std.specs.Prelude.{All, Contains, ◌==◌}
use Rattle.std.specs.Cmp.{unsigned_Decides}
use Rattle.std.proofs.lemmas.Bool.{cases_lt, false≢true}
use Rattle.std.proofs.lemmas.List.Elements.{All-nil, All-cons, All-head, All-tail}
use Rattle.ab_term.specs.Types.{Ty, same_type}
use Rattle.ab_term.specs.Terms.{Nominal, Read}
use Rattle.ab_term.specs.Names.{support, same_nominal}
use Rattle.ab_term.proofs.Comparisons.{same_nominal-Decides, same_type-Decides}
use Rattle.ab_term.proofs.Lists.{Contains-none, Contains-cases, All-from_contains, contains_or_not}
use Rattle.ab_formulas.specs.NewNames.{IsLeast}
use Rattle.ab_formulas.specs.Sequents.{Sequent, goal_names}
use Rattle.ab_theory.specs.Rules.{MayName}

-- A LEAST NUMBER of a property that can be tested, where there is one
module _ (P : ℕ → Type 0) (test : (n : ℕ) → P n ⊎ (P n → ⊥)) where
  below : (k : ℕ) → ((m : ℕ) × IsLeast P m) ⊎ ((m : ℕ) → m < k → P m → ⊥)
  below zero = inr (λ m l p. absurd (omega (arith, l)))
  below (suc k) = elim (below k) [
    | inl least ↦ inl least
    | inr none ↦ elim (test k) [
      | inl p ↦ inl (k, record { has = p; first = none })
      | inr q ↦ inr (λ m l p. at m l p (cases_lt m k) none q)
    ]
  ]
    where
      at : (m : ℕ) → m < suc k → P m → (m < k) ⊎ (k ≤ m) → ((i : ℕ) → i < k → P i → ⊥) → (P k → ⊥) → ⊥
      at m l p (inl low) none q = none m low p
      at m l p (inr high) none q = let same : m ≡ k = omega (arith, l, high) in q (subst P same p)

  pub least_there : (n : ℕ) → P n → (m : ℕ) × IsLeast P m
  least_there n p = elim (below (suc n)) [ inl m ↦ m | inr none ↦ absurd (none n (omega arith) p) ]

-- more than each of the numbers
abbrev pub above : List Nominal → ℕ
above [] = 1
above (a ∷ names) = a.number + above names

pub above_some : (names : List Nominal) → 1 ≤ above names
above_some [] = omega arith
above_some (x ∷ xs) = let l = above_some xs in omega (arith, l)

pub number_below : (names : List Nominal) (a : Nominal) → Contains names a → a.number < above names
number_below [] a c = absurd (Contains-none a c)
number_below (b ∷ names) a c = elim (Contains-cases b names a c) [
  | inl same ↦ subst (λ (x : Nominal). x.number < above (b ∷ names)) same (let some = above_some names in omega (arith, some))
  | inr there ↦ (let l = number_below names a there in omega (arith, l))
]

module _ (n : ℕ) (A : Ty) where
  IsOfType : Nominal → Type 0
  IsOfType b = b.number ≡ n → b.type ≡ A

  of_type : (b : Nominal) → IsOfType b ⊎ (IsOfType b → ⊥)
  unfolding IsOfType
  of_type b = go (b.number == n) refl (same_type b.type A) refl
    where
      go : (x : Bool) → (b.number == n) ≡ x → (y : Bool) → same_type b.type A ≡ y → (b.number ≡ n → b.type ≡ A) ⊎ ((b.number ≡ n → b.type ≡ A) → ⊥)
      go false e y f = inl (λ q. absurd (false≢true (sym e ∙ (unsigned_Decides b.number n).1 q)))
      go true e true f = inl (λ q. (same_type-Decides b.type A).0 f)
      go true e false f = inr (λ all. false≢true (sym f ∙ (same_type-Decides b.type A).1 (all ((unsigned_Decides b.number n).0 e))))

  pub one_type_or_not : (bs : List Nominal) → All (λ (b : Nominal). b.number ≡ n → b.type ≡ A) bs ⊎ (All (λ (b : Nominal). b.number ≡ n → b.type ≡ A) bs → ⊥)
  unfolding IsOfType
  one_type_or_not [] = inl (All-nil (λ (b : Nominal). b.number ≡ n → b.type ≡ A))
  one_type_or_not (b ∷ bs) = elim (of_type b) [
    | inl here ↦ elim (one_type_or_not bs) [
      | inl rest ↦ inl (All-cons (λ (b : Nominal). b.number ≡ n → b.type ≡ A) b bs here rest)
      | inr none ↦ inr (λ all. none (All-tail (λ (b : Nominal). b.number ≡ n → b.type ≡ A) b bs all))
    ]
    | inr none ↦ inr (λ all. none (All-head (λ (b : Nominal). b.number ≡ n → b.type ≡ A) b bs all))
  ]

may_or_not : (s : Sequent) (F : Read) (A : Ty) (n : ℕ) → MayName s F A n ⊎ (MayName s F A n → ⊥)
may_or_not s F A zero = inr (λ m. let p = m.positive in absurd (omega (arith, p)))
may_or_not s F A (suc k) =
    elim (contains_or_not same_nominal same_nominal-Decides (support F) (record { number = suc k; type = A })) [
      | inl c ↦ inr (λ m. m.outside c)
      | inr out ↦ elim (one_type_or_not (suc k) A (goal_names s)) [
        | inl one ↦ inl (record { positive = omega arith; outside = out; one_type = one })
        | inr none ↦ inr (λ m. none m.one_type)
      ]
    ]

pub least_constant : (s : Sequent) (F : Read) (A : Ty) → (n : ℕ) × IsLeast (MayName s F A) n
least_constant s F A =
    let n = above (support F) + above (goal_names s) in
    let some = above_some (support F) in
    least_there (MayName s F A) (may_or_not s F A) n (record {
      positive = omega (arith, some);
      outside = λ c. let l = number_below (support F) (record { number = n; type = A }) c in omega (arith, l, above_some (goal_names s));
      one_type = All-from_contains (λ (b : Nominal). b.number ≡ n → b.type ≡ A) (goal_names s) (λ b c e. absurd (let l = number_below (goal_names s) b c in omega (arith, l, e)));
    })
