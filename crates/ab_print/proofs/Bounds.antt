-- A number above all ids of a list: what a walk through the list goes down from.
use Rattle.std.proofs.Common.{ℕ, ◌+◌, ◌<◌, ◌≤◌, max, List, [], ◌∷◌, length, get_or, drop, arith}
use Rattle.std.specs.List.{All}
use Rattle.std.proofs.lemmas.List.Elements.{All-head, All-tail}
use Rattle.ab_store.specs.declared.node.TermId.{TermId}

-- one more than the largest
abbrev pub ids_bound : List TermId → ℕ
ids_bound [] = 0
ids_bound (t ∷ ts) = max (t.0 + 1) (ids_bound ts)

pub bound_within : (n : ℕ) (ts : List TermId) → All (λ t. t.0 < n) ts → ids_bound ts ≤ n
bound_within n [] h = omega arith
bound_within n (t ∷ ts) h = omega (arith, All-head (λ t. t.0 < n) t ts h, bound_within n ts (All-tail (λ t. t.0 < n) t ts h))

pub first_below : (ts : List TermId) (d : TermId) → 1 ≤ length ts → (get_or ts 0 d).0 < ids_bound ts
first_below [] d h = absurd (omega arith)
first_below (t ∷ ts) d h = omega arith

pub rest_below : (ts : List TermId) → ids_bound (drop 1 ts) ≤ ids_bound ts
rest_below [] = omega arith
rest_below (t ∷ ts) = omega arith
