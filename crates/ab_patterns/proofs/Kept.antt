-- What is kept after one more term.
use Rattle.std.proofs.Common.{◌≡◌, ◌⊎◌, inl, inr, ℕ, Bool, true, false, cond, ◌==◌, ◌&&◌, Decides, refl, sym, ap}
use Rattle.std.proofs.lemmas.Bool.Decides.{Decides-eqb}
use Rattle.ab_norm.specs.ab_store.specs.declared.node.TermId.{TermId}
use Rattle.ab_patterns.specs.ReadingWalks.{same_place}

both_equal : (a b c d : ℕ) → ((a == b) && (c == d)) ≡ true → (a ≡ b) × (c ≡ d)
both_equal a b c d e = go (a == b) (c == d) (Decides-eqb a b) (Decides-eqb c d) e
  where
    go : (p q : Bool) → Decides p (a ≡ b) → Decides q (c ≡ d) → (p && q) ≡ true → (a ≡ b) × (c ≡ d)
    go true true f g h = (f.0 refl, g.0 refl)
    go true false f g h = absurd (cc)
    go false q f g h = absurd (cc)

pub kept_or_new : (term t : TermId) (depth k : ℕ) (old new : Bool) → new ≡ cond (same_place (term, depth) (t, k)) true old → (new ≡ old) ⊎ ((t ≡ term) × (k ≡ depth))
kept_or_new term t depth k old new e = go (same_place (term, depth) (t, k)) refl e
  where
    go : (b : Bool) → same_place (term, depth) (t, k) ≡ b → new ≡ cond b true old → (new ≡ old) ⊎ ((t ≡ term) × (k ≡ depth))
    go true s e =
        let same = both_equal term.0 t.0 depth k s in
        inr (ap (λ i. record { 0 = i }) (sym same.0), sym same.1)
    go false s e = inl e
