-- The index that is left when a binder goes, by comparison.
use Rattle.std.proofs.Common.{◌≡◌, ℕ, zero, suc, ◌-◌, ◌<◌, Some, None, option_map, refl, ap, ◌∙◌, arith}
use Rattle.ab_term.specs.Substitution.{lower_index}

pub lower_index-same : (k : ℕ) → lower_index k k ≡ None
lower_index-same zero = refl
lower_index-same (suc k) = ap (option_map suc) (lower_index-same k)

pub lower_index-above : (k i : ℕ) → k < i → lower_index k i ≡ Some (i - 1)
lower_index-above zero zero h = absurd (omega arith)
lower_index-above zero (suc i) h = ap Some (let e : i ≡ suc i - 1 = omega arith in e)
lower_index-above (suc k) zero h = absurd (omega arith)
lower_index-above (suc k) (suc i) h =
    ap (option_map suc) (lower_index-above k i (omega arith)) ∙ ap Some (let e : suc (i - 1) ≡ suc i - 1 = omega arith in e)
