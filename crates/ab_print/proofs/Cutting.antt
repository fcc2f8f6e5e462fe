-- The first of a list, and the others.
use Rattle.std.proofs.Common.{◌≡◌, ℕ, suc, ◌+◌, ◌-◌, ◌≤◌, ◌<◌, max, List, [], ◌∷◌, length, get_or, take, drop, sym, ◌∙◌, ap, arith}
use Rattle.std.proofs.Math.Seq.{take-length}
use Rattle.ab_store.specs.declared.node.TermId.{TermId}
use Rattle.ab_print.proofs.Bounds.{ids_bound}

pub whole : {X : Type 0} (xs : List X) (d : X) → 1 ≤ length xs → xs ≡ get_or xs 0 d ∷ take (length xs - 1) (drop 1 xs)
whole [] d h = absurd (omega arith)
whole {X = X} (x ∷ xs) d h = let n : length (x ∷ xs) - 1 ≡ length xs = omega arith in ap (λ (w : List X). x ∷ w) (sym (take-length xs) ∙ ap (λ (k : ℕ). take k xs) (sym n))

pub bound_of_rest : (ids : List TermId) (first : TermId) (rest : List TermId) → ids ≡ first ∷ rest → ids_bound rest ≤ ids_bound ids
bound_of_rest ids first rest e = let f : ids_bound ids ≡ max (first.0 + 1) (ids_bound rest) = ap ids_bound e in omega arith

pub bound_of_first : (ids : List TermId) (first : TermId) (rest : List TermId) → ids ≡ first ∷ rest → first.0 < ids_bound ids
bound_of_first ids first rest e = let f : ids_bound ids ≡ max (first.0 + 1) (ids_bound rest) = ap ids_bound e in omega arith

pub length_of_rest : {X : Type 0} (xs : List X) (first : X) (rest : List X) → xs ≡ first ∷ rest → length xs ≡ suc (length rest)
length_of_rest xs first rest e = ap length e
