-- Counts of what was accepted and refused, which go on over a report.
use Rattle.std.proofs.Common.{◌≡◌, ◌<◌, ◌≤◌, ◌+◌, ◌↔◌, IsTrue, ℕ, zero, suc, false, nat_lt, if◌then◌else◌, [], ◌∷◌, length, refl, ap, ◌∙◌, arith, inl, inr}
use Rattle.std.proofs.lemmas.Bool.{cases_Bool, lt-ltb, ltb-true}
use Rattle.ab_io.specs.Count.{last_count}
use Rattle.ab_session.specs.ab_states.specs.Reply.{is_refusal}
use Rattle.ab_run.specs.Report.{Report, refused_in, accepted_in}
use Rattle.ab_run.specs.Progress.{one_more, refused_on, accepted_on}

-- a count is above 0 where it is told so
pub is_some_count : (n : ℕ) → IsTrue (nat_lt 0 n) ↔ 0 < n
is_some_count n = (λ e. ltb-true 0 n e, λ l. lt-ltb 0 n l)

not_small : (n : ℕ) → nat_lt n last_count ≡ false → 0 < n
not_small zero f = cc
not_small (suc n) f = omega arith

one_more_some : (n : ℕ) → 0 < one_more n
one_more_some n =
    elim (cases_Bool (nat_lt n last_count)) [
      | inl t ↦ rw t (omega arith)
      | inr f ↦ rw f (not_small n f)
    ]

-- a count that is above 0 stays so
stays_some : (n : ℕ) (r : Report) → 0 < n → 0 < refused_on n r
stays_some n [] l = l
stays_some n (m ∷ r) l =
    elim (cases_Bool (is_refusal m.reply)) [
      | inl t ↦ rw t (stays_some (one_more n) r (one_more_some n))
      | inr f ↦ rw f (stays_some n r l)
    ]

-- a count from 0 on is above 0 exactly where a command was refused
pub refused_zero : (r : Report) → ¬ (0 < refused_on 0 r) → refused_in r ≡ 0
refused_zero [] n = refl
refused_zero (m ∷ r) n =
    elim (cases_Bool (is_refusal m.reply)) [
      | inl t ↦ absurd (n (rw t (stays_some (one_more 0) r (one_more_some 0))))
      | inr f ↦ rw f (refused_zero r (rw f at n))
    ]

pub refused_some : (r : Report) → 0 < refused_on 0 r → 0 < refused_in r
refused_some [] l = l
refused_some (m ∷ r) l =
    elim (cases_Bool (is_refusal m.reply)) [
      | inl t ↦ rw t (omega arith)
      | inr f ↦ rw f (refused_some r (rw f at l))
    ]

-- COUNTS ARE EXACT where there is room for them
room : (n k : ℕ) → n + suc k ≤ last_count → one_more n ≡ n + 1
room n k l = ap (λ t. if t then n + 1 else n) (lt-ltb n last_count (omega (arith, l)))

pub refused_exact : (n : ℕ) (r : Report) → n + length r ≤ last_count → refused_on n r ≡ n + refused_in r
refused_exact n [] l = omega arith
refused_exact n (m ∷ r) l =
    elim (cases_Bool (is_refusal m.reply)) [
      | inl t ↦ rw t (ap (λ k. refused_on k r) (room n (length r) l) ∙ (refused_exact (n + 1) r (omega (arith, l)) ∙ omega arith))
      | inr f ↦ rw f (refused_exact n r (omega (arith, l)))
    ]

pub accepted_exact : (n : ℕ) (r : Report) → n + length r ≤ last_count → accepted_on n r ≡ n + accepted_in r
accepted_exact n [] l = omega arith
accepted_exact n (m ∷ r) l =
    elim (cases_Bool (is_refusal m.reply)) [
      | inl t ↦ rw t (accepted_exact n r (omega (arith, l)))
      | inr f ↦ rw f (ap (λ k. accepted_on k r) (room n (length r) l) ∙ (accepted_exact (n + 1) r (omega (arith, l)) ∙ omega arith))
    ]
