-- Formulas that are no quantifiers or implications stay.
use Rattle.std.proofs.Common.{◌≡◌, ℕ, List, [], ◌∷◌, length, refl}
use Rattle.ab_term.specs.Terms.{Head, spine, terms_of, Read}
use Rattle.ab_theory.specs.Uses.{with_term, left_side, right_side}

pub with_other : (h : Head ℕ) (ts : List Read) (u : Read) → (length ts ≡ 1 → ⊥) → with_term (spine h (terms_of ts)) u ≡ spine h (terms_of ts)
with_other h [] u n = refl
with_other h (t ∷ []) u n = absurd (n refl)
with_other h (t ∷ v ∷ ts) u n = refl

pub left_other : (h : Head ℕ) (ts : List Read) → (length ts ≡ 2 → ⊥) → left_side (spine h (terms_of ts)) ≡ spine h (terms_of ts)
left_other h [] n = refl
left_other h (t ∷ []) n = refl
left_other h (t ∷ u ∷ []) n = absurd (n refl)
left_other h (t ∷ u ∷ v ∷ ts) n = refl

pub right_other : (h : Head ℕ) (ts : List Read) → (length ts ≡ 2 → ⊥) → right_side (spine h (terms_of ts)) ≡ spine h (terms_of ts)
right_other h [] n = refl
right_other h (t ∷ []) n = refl
right_other h (t ∷ u ∷ []) n = absurd (n refl)
right_other h (t ∷ u ∷ v ∷ ts) n = refl
