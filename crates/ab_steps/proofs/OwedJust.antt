-- Debts as often as they are: what a derivation owes after a step, and how debts add up.
use Rattle.std.specs.Prelude.{Contains, ◌⊎◌}
use Rattle.std.specs.List.Sorted.{IsPermutation}
use Rattle.std.proofs.Common.{◌≡◌, inl, inr, ℕ, Some, List, [], ◌++◌, sym, subst, append_assoc, append-nil}
use Rattle.std.proofs.lemmas.List.Elements.{Contains-append_left, Contains-append_right, Contains-append_cases}
use Rattle.std.proofs.lemmas.List.Sorted.{IsPermutation-refl, IsPermutation-sym, IsPermutation-trans, IsPermutation-append_left, IsPermutation-append_right, IsPermutation-append_comm, Contains-permutation}
use Rattle.std.proofs.lemmas.Option.{slice_get_within}
use Rattle.ab_formulas.specs.Sequents.{Sequent}
use Rattle.ab_theory.specs.Steps.{Step}
use Rattle.ab_theory.specs.Derivations.{Derivation, open_goals, goal_at, refined, Debt, debts_of, debts, OwesMore}
use Rattle.ab_theory.proofs.Debts.{Inserted, debts-refined}

-- the second derivation owes each debt as often as the first and the list together
abbrev pub OwesJust : List Debt → Derivation → Derivation → Type 0
OwesJust ts d e = IsPermutation (debts e) (debts d ++ ts)

inserted_last : (ts xs ys : List Debt) → Inserted ts xs ys → IsPermutation ys (xs ++ ts)
inserted_last ts xs ys i =
    subst (λ l. IsPermutation l (xs ++ ts)) (sym i.is)
    (subst (λ l. IsPermutation (i.before ++ (ts ++ i.behind)) (l ++ ts)) (sym i.was)
    (subst (IsPermutation (i.before ++ (ts ++ i.behind))) (sym (append_assoc i.before i.behind ts))
    (IsPermutation-append_right i.before (ts ++ i.behind) (i.behind ++ ts) (IsPermutation-append_comm ts i.behind))))

-- a step owes its debts
pub just_refined : (place : ℕ) (step : Step) (s : Sequent) (ps : List Sequent) (d : Derivation) → goal_at d place ≡ Some s → OwesJust (debts_of step) d (refined place step ps d)
just_refined place step s ps d is =
    inserted_last (debts_of step) (debts d) (debts (refined place step ps d)) (debts-refined step ps place d (slice_get_within (open_goals d) place s is))

-- debts add up
pub just_same : (d e : Derivation) → debts d ≡ debts e → OwesJust [] d e
just_same d e same = subst (λ l. IsPermutation l (debts d ++ [])) same (subst (IsPermutation (debts d)) (sym (append-nil (debts d))) (IsPermutation-refl (debts d)))

pub just_on : (ts us : List Debt) (d e f : Derivation) → OwesJust ts d e → OwesJust us e f → OwesJust (ts ++ us) d f
just_on ts us d e f first second =
    IsPermutation-trans (debts f) (debts e ++ us) (debts d ++ (ts ++ us)) second
    (subst (IsPermutation (debts e ++ us)) (append_assoc (debts d) ts us) (IsPermutation-append_left us (debts e) (debts d ++ ts) first))

-- so the second has no other debts than the first and the list
pub just_owes : (ts : List Debt) (d e : Derivation) → OwesJust ts d e → OwesMore ts d e
just_owes ts d e owes t =
    (λ c. Contains-append_cases (debts d) ts t (Contains-permutation (debts e) (debts d ++ ts) t owes c), λ b. Contains-permutation (debts d ++ ts) (debts e) t (IsPermutation-sym (debts e) (debts d ++ ts) owes) (joined b))
  where
    joined : Contains (debts d) t ⊎ Contains ts t → Contains (debts d ++ ts) t
    joined (inl a) = Contains-append_left (debts d) ts t a
    joined (inr b) = Contains-append_right (debts d) ts t b
