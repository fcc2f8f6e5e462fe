-- A number above all ids of a list: what a walk through the list goes down from.
use Rattle.std.proofs.Common.{ℕ, zero, suc, ◌+◌, ◌<◌, ◌≤◌, max, List, [], ◌∷◌, length, get_or, arith}
use Rattle.std.specs.List.{All}
use Rattle.std.proofs.lemmas.List.Elements.{All-head, All-tail}
use Rattle.ab_term.specs.Types.{Ty, kind, arrow}
use Rattle.ab_store.specs.ab_types.specs.Entries.{Table}
use Rattle.ab_store.specs.ab_types.specs.Ids.{type_of}
use Rattle.ab_store.specs.declared.node.TermId.{TermId}
use Rattle.ab_norm.specs.declared.term_walks.Change.{Change}
use Rattle.ab_norm.specs.declared.term_walks.Change.TheVariants.{Put}

-- one more than the largest
abbrev pub ids_bound : List TermId → ℕ
ids_bound [] = 0
ids_bound (t ∷ ts) = max (t.0 + 1) (ids_bound ts)

pub bound_within : (n : ℕ) (ts : List TermId) → All (λ t. t.0 < n) ts → ids_bound ts ≤ n
bound_within n [] h = omega arith
bound_within n (t ∷ ts) h = omega (arith, All-head (λ t. t.0 < n) t ts h, bound_within n ts (All-tail (λ t. t.0 < n) t ts h))

pub below_bound : (ts : List TermId) (i : ℕ) (d : TermId) → i < length ts → (get_or ts i d).0 < ids_bound ts
below_bound [] i d h = absurd (omega arith)
below_bound (t ∷ ts) zero d h = omega arith
below_bound (t ∷ ts) (suc i) d h = omega (arith, below_bound ts i d (omega arith))

-- how many kinds and arrows a type is made of
abbrev pub size : Ty → ℕ
size (kind c) = 1
size (arrow A B) = size A + size B + 1

pub size_positive : (A : Ty) → 0 < size A
size_positive (kind c) = omega arith
size_positive (arrow A B) = omega arith

-- the size of the type of what is put in
abbrev pub rank : Table → Change → ℕ
rank types (Put a u) = size (type_of types a)
rank types _ = 0
