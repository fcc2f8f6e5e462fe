-- What is certain leads to what is certain; a property is there or not; and where a number has one, there is a least.
use Rattle.std.proofs.Common.{◌≡◌, ◌⊎◌, inl, inr, ℕ, zero, suc, ◌<◌, ◌≤◌, subst, arith}
use Rattle.std.proofs.lemmas.Bool.{cases_lt}
use Rattle.ab_formulas.specs.NewNames.{IsLeast}
use Rattle.ab_existence.specs.Certainty.{IsCertain, OneHolds, OneOfThreeHolds}

pub sure : {P : Type 0} → P → IsCertain P
sure p fails = fails p

pub and_so : {P Q : Type 0} → IsCertain P → (P → IsCertain Q) → IsCertain Q
and_so m f fails = m (λ p. f p fails)

pub and_also : {P Q : Type 0} → IsCertain P → (P → Q) → IsCertain Q
and_also m f fails = m (λ p. fails (f p))

pub there_or_not : (P : Type 0) → IsCertain (P ⊎ (P → ⊥))
there_or_not P fails = fails (inr (λ p. fails (inl p)))

least_below : (P : ℕ → Type 0) (k : ℕ) → IsCertain (((m : ℕ) × IsLeast P m) ⊎ ((m : ℕ) → m < k → P m → ⊥))
least_below P zero = sure (inr (λ m l p. absurd (omega (arith, l))))
least_below P (suc k) =
    and_so (least_below P k)
    (λ before. elim before [
      | inl least ↦ sure (inl least)
      | inr none ↦ and_also (there_or_not (P k))
          (λ here. elim here [
            | inl p ↦ inl (k, record { has = p; first = none })
            | inr q ↦ inr (λ m l p. at m l p (cases_lt m k) none q)
          ])
    ])
  where
    at : (m : ℕ) → m < suc k → P m → (m < k) ⊎ (k ≤ m) → ((i : ℕ) → i < k → P i → ⊥) → (P k → ⊥) → ⊥
    at m l p (inl below) none q = none m below p
    at m l p (inr above) none q = let same : m ≡ k = omega (arith, l, above) in q (subst P same p)

pub least : (P : ℕ → Type 0) (n : ℕ) → P n → IsCertain ((m : ℕ) × IsLeast P m)
least P n p =
    and_so (least_below P (suc n))
    (λ found. elim found [ inl m ↦ sure m | inr none ↦ absurd (none n (omega arith) p) ])

-- one of several that are all

pub of_two : {P Q : Type 0} → IsCertain (P ⊎ Q) → OneHolds P Q
of_two there none = there (λ a. elim a [ inl p ↦ none.0 p | inr q ↦ none.1 q ])

pub of_three : {P Q R : Type 0} → IsCertain (P ⊎ (Q ⊎ R)) → OneOfThreeHolds P Q R
of_three there none = there (λ a. elim a [ inl p ↦ none.0 p | inr other ↦ elim other [ inl q ↦ none.1 q | inr r ↦ none.2 r ] ])
