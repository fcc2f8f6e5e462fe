-- A cell that is made.
use Rattle.std.proofs.Common.{◌≡◌, ◌⊎◌, inl, inr, ℕ, ◌+◌, ◌<◌, ◌≤◌, length, Result, Ok, Err, IfOk, OnOk, sym, subst, arith}
use Rattle.std.proofs.Math.Nat.{eq-or-lt_of_le}
use Rattle.ab_norm.specs.ab_types.specs.Entries.{Table, IsExtendedBy}
use Rattle.ab_norm.specs.ab_store.specs.declared.node.CellId.{CellId}
use Rattle.ab_norm.specs.ab_store.specs.Trees.{Contents, HoldsCell}
use Rattle.ab_norm.specs.ab_store.specs.Naming.{IsTypedBy}
use Rattle.ab_norm.specs.ab_store.proofs.Tables.{still_typed}

pub typed_by_more : (types more : Table) (store : Contents) → IsExtendedBy types more → IsTypedBy types store → IsTypedBy more store
typed_by_more types more store part typed = subst (λ t. IsTypedBy t store) (sym part.1) (still_typed types part.0 store typed)

last : (n m k : ℕ) → k < m → (k < n → ⊥) → m ≡ n + 1 → k ≡ n
last n m k low high one = go (eq-or-lt_of_le (let below : k ≤ n = omega (arith, low, one) in below))
  where
    go : (k ≡ n) ⊎ (k < n) → k ≡ n
    go (inl e) = e
    go (inr l) = absurd (high l)

pub youngest : {E : Type 0} (s t : Contents) (r : Result CellId E) → IfOk r (λ c. HoldsCell t c) → IfOk r (λ c. ¬ HoldsCell s c) → OnOk r (length t.cells ≡ length s.cells + 1) → IfOk r (λ c. c.0 ≡ length s.cells)
youngest s t (Ok c) held fresh one = last (length s.cells) (length t.cells) c.0 held fresh one
youngest s t (Err e) held fresh one = tt
