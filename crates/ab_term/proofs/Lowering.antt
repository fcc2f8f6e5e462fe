-- An index or a head from which a binder was taken off is one that was shifted, or that binder's own.
use Rattle.std.proofs.Common.{◌≡◌, ℕ, zero, suc, Option, Some, None, option_map, refl, ◌∙◌, ap}
use Rattle.ab_term.specs.Terms.{Head, constant, logical, nominal, variable, index}
use Rattle.ab_term.specs.Substitution.{shift_index, shift_head, lower_index, lower_head}

lower_index-some : (k i j : ℕ) → lower_index k i ≡ Some j → i ≡ shift_index k j
lower_index-some zero zero j e = absurd (cc)
lower_index-some zero (suc i) j e = let same : i ≡ j = cc in ap suc same
lower_index-some (suc k) zero j e = let same : zero ≡ j = cc in ap (shift_index (suc k)) same
lower_index-some (suc k) (suc i) j e = go (lower_index k i) (lower_index-some k i) e
  where
    go : (o : Option ℕ) → ((m : ℕ) → o ≡ Some m → i ≡ shift_index k m) → option_map suc o ≡ Some j → suc i ≡ shift_index (suc k) j
    go None rest e = absurd (cc)
    go (Some m) rest e = let same : suc m ≡ j = cc in ap suc (rest m refl) ∙ ap (shift_index (suc k)) same

lower_index-none : (k i : ℕ) → lower_index k i ≡ None → i ≡ k
lower_index-none zero zero e = refl
lower_index-none zero (suc i) e = absurd (cc)
lower_index-none (suc k) zero e = absurd (cc)
lower_index-none (suc k) (suc i) e = go (lower_index k i) (lower_index-none k i) e
  where
    go : (o : Option ℕ) → (o ≡ None → i ≡ k) → option_map suc o ≡ None → suc i ≡ suc k
    go None rest e = ap suc (rest refl)
    go (Some m) rest e = absurd (cc)

pub lower_head-some : (k : ℕ) (g h : Head ℕ) → lower_head k g ≡ Some h → g ≡ shift_head k h
lower_head-some k (constant c) h e = let same : constant c ≡ h = cc in ap (shift_head k) same
lower_head-some k (logical l) h e = let same : logical l ≡ h = cc in ap (shift_head k) same
lower_head-some k (nominal a) h e = let same : nominal a ≡ h = cc in ap (shift_head k) same
lower_head-some k (variable y) h e = let same : variable y ≡ h = cc in ap (shift_head k) same
lower_head-some k (index i) h e = go (lower_index k i) refl e
  where
    go : (o : Option ℕ) → lower_index k i ≡ o → option_map index o ≡ Some h → index i ≡ shift_head k h
    go None f e = absurd (cc)
    go (Some m) f e = let same : index m ≡ h = cc in ap index (lower_index-some k i m f) ∙ ap (shift_head k) same

pub lower_head-none : (k : ℕ) (g : Head ℕ) → lower_head k g ≡ None → g ≡ index k
lower_head-none k (constant c) e = absurd (cc)
lower_head-none k (logical l) e = absurd (cc)
lower_head-none k (nominal a) e = absurd (cc)
lower_head-none k (variable y) e = absurd (cc)
lower_head-none k (index i) e = ap index (go (lower_index k i) refl e)
  where
    go : (o : Option ℕ) → lower_index k i ≡ o → option_map {U = Head ℕ} index o ≡ None → i ≡ k
    go None f e = lower_index-none k i f
    go (Some m) f e = absurd (cc)
