-- Constants that a sequent doesn't hold, one for each of some: by numbers above all.
use Rattle.std.proofs.Common.{◌≡◌, ◌≢◌, inl, inr, ℕ, suc, ◌≤◌, List, [], ◌∷◌, ap, sym, ◌∙◌, refl, subst, arith}
use Rattle.std.specs.Prelude.{AllPairs, Contains}
use Rattle.std.proofs.lemmas.List.Kept.{AllPairs-cons}
use Rattle.ab_term.specs.Terms.{Nominal}
use Rattle.ab_term.proofs.Lists.{Contains-none, Contains-cases, All-from_contains, AllPairs-none}
use Rattle.ab_term.proofs.Permuting.{OfOneType}

-- numbered from there on
abbrev pub fresh : ℕ → List Nominal → List Nominal
fresh n [] = []
fresh n (a ∷ as_) = record { number = n; type = a.type } ∷ fresh (suc n) as_

pub fresh_types : (n : ℕ) (as_ : List Nominal) → OfOneType as_ (fresh n as_)
fresh_types n [] = tt
fresh_types n (a ∷ as_) = (refl, fresh_types (suc n) as_)

pub fresh_above : (n : ℕ) (as_ : List Nominal) (b : Nominal) → Contains (fresh n as_) b → n ≤ b.number
fresh_above n [] b m = absurd (Contains-none b m)
fresh_above n (a ∷ as_) b m = elim (Contains-cases (record { number = n; type = a.type }) (fresh (suc n) as_) b m) [
  | inl e ↦ subst (λ (c : Nominal). n ≤ c.number) e (omega arith)
  | inr k ↦ (let l = fresh_above (suc n) as_ b k in omega (arith, l))
]

pub fresh_differ : (n : ℕ) (as_ : List Nominal) → AllPairs (λ a b. a ≢ b) (fresh n as_)
fresh_differ n [] = AllPairs-none (λ a b. a ≢ b)
fresh_differ n (a ∷ as_) =
    let first : Nominal = record { number = n; type = a.type } in
    AllPairs-cons (λ a b. a ≢ b) first (fresh (suc n) as_)
    (All-from_contains (λ b. first ≢ b) (fresh (suc n) as_) (λ b m e. let l = fresh_above (suc n) as_ b m in let q : n ≡ b.number = ap (λ (c : Nominal). c.number) e in omega (arith, l, q)))
    (fresh_differ (suc n) as_)

-- a number stands there once
pub fresh_once : (n : ℕ) (as_ : List Nominal) (b c : Nominal) → Contains (fresh n as_) b → Contains (fresh n as_) c → b.number ≡ c.number → b ≡ c
fresh_once n [] b c k m e = absurd (Contains-none b k)
fresh_once n (a ∷ as_) b c k m e =
    let first : Nominal = record { number = n; type = a.type } in
    elim (Contains-cases first (fresh (suc n) as_) b k) [
      | inl p ↦ elim (Contains-cases first (fresh (suc n) as_) c m) [
        | inl q ↦ sym p ∙ q
        | inr q ↦ absurd (let l = fresh_above (suc n) as_ c q in let x : n ≡ b.number = ap (λ (z : Nominal). z.number) p in omega (arith, l, x, e))
      ]
      | inr p ↦ elim (Contains-cases first (fresh (suc n) as_) c m) [
        | inl q ↦ absurd (let l = fresh_above (suc n) as_ b p in let x : n ≡ c.number = ap (λ (z : Nominal). z.number) q in omega (arith, l, x, e))
        | inr q ↦ fresh_once (suc n) as_ b c p q e
      ]
    ]
