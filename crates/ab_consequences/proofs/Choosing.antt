-- The number of a constant that is chosen anew.
use Rattle.std.proofs.Common.{◌≡◌, List, sym, ap, subst}
use Rattle.std.specs.Prelude.{Contains}
use Rattle.ab_term.specs.Types.{Ty}
use Rattle.ab_term.specs.Terms.{Nominal}
use Rattle.ab_unifiers.specs.Choices.{new_constant}
use Rattle.ab_unifiers.proofs.Matching.{new_is_new}

-- the number of a new constant is no other's
pub not_held : (held : List Nominal) (A : Ty) (b : Nominal) → Contains held b → (new_constant held A).number ≡ b.number → ⊥
not_held held A b there e =
    let same : new_constant held b.type ≡ b = ap (λ n. record { number = n; type = b.type }) e in
    new_is_new held b.type (subst (Contains held) (sym same) there)
