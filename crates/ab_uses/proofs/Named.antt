-- The type of the outermost `forall` of a name, one piece after another.
use Rattle.std.proofs.Common.{◌≡◌, ◌≤◌, ℕ, zero, suc, List, ◌∷◌, true, false, bytes_eq, Some, None, refl, ap, arith}
use Rattle.ab_term.specs.Types.{Ty}
use Rattle.ab_term.specs.Terms.{Read}
use Rattle.ab_theory.specs.Pieces.{Piece, universal_of, pieces, type_named}
use Rattle.ab_uses.specs.Layers.{implies, layer_of}
use Rattle.ab_uses.proofs.Layers.{pieces_none, pieces_one}

module _ (n x : List ℕ) (A : Ty) (ps : List Piece) where
  pub named_here : bytes_eq x n ≡ true → type_named n (universal_of x A ∷ ps) ≡ Some A
  named_here e = rw e refl

  pub named_later : bytes_eq x n ≡ false → type_named n (universal_of x A ∷ ps) ≡ type_named n ps
  named_later e = rw e refl

-- no antecedent is taken off, or one, and nothing behind it
pub named_before_last : (n : List ℕ) (F A B : Read) (left : ℕ) → implies A B ≡ layer_of F → left ≤ 1 → type_named n (pieces left F) ≡ None
named_before_last n F A B zero e few = ap (type_named n) (pieces_none F A B e)
named_before_last n F A B (suc zero) e few = ap (type_named n) (pieces_one F A B e)
named_before_last n F A B (suc (suc k)) e few = absurd (omega (arith, few))
