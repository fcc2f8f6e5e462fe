-- Heads that stay, whatever is put in for variables and whatever nominal constants become.
use Rattle.std.specs.Prelude.{ℕ, Bool, true, false, cond, not, Option, Some, None}
use Rattle.ab_term.specs.Terms.{Head, constant, logical, lam, spine, Read}
use Rattle.ab_term.specs.Sameness.{same_head}
use Rattle.ab_formulas.specs.Marks.{erased}

-- it is a constant of the signature or of the logic
abbrev pub is_rigid : Head ℕ → Bool
is_rigid (constant c) = true
is_rigid (logical l) = true
is_rigid _ = false

-- the head of a term, where it is rigid
abbrev pub rigid_head : Read → Option (Head ℕ)
rigid_head (lam A x t) = None
rigid_head (spine h ts) = cond (is_rigid h) (Some h) None

-- both are there, and differ
abbrev pub differ : Option (Head ℕ) → Option (Head ℕ) → Bool
differ (Some g) (Some h) = not (same_head g h)
differ _ _ = false

-- THE HEADS DIFFER of the formulas, both without marks
abbrev pub have_different_heads : Read → Read → Bool
have_different_heads B C = differ (rigid_head (erased B)) (rigid_head (erased C))
