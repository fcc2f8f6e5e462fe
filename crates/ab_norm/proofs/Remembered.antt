-- What is kept after one more answer.
use Rattle.std.proofs.Common.{◌≡◌, ◌⊎◌, inl, inr, ℕ, Bool, true, false, cond, ◌==◌, ◌&&◌, Option, Some, Decides, refl, sym, ap}
use Rattle.std.proofs.lemmas.Bool.Decides.{Decides-eqb}
use Rattle.ab_store.specs.declared.node.TermId.{TermId}
use Rattle.ab_norm.specs.WalkMemory.{same_term, same_place, same_pair}

both_equal : (a b c d : ℕ) → ((a == b) && (c == d)) ≡ true → (a ≡ b) × (c ≡ d)
both_equal a b c d e = go (a == b) (c == d) (Decides-eqb a b) (Decides-eqb c d) e
  where
    go : (p q : Bool) → Decides p (a ≡ b) → Decides q (c ≡ d) → (p && q) ≡ true → (a ≡ b) × (c ≡ d)
    go true true f g h = (f.0 refl, g.0 refl)
    go true false f g h = absurd (cc)
    go false q f g h = absurd (cc)

pub kept_or_new : (term t answer : TermId) (depth k : ℕ) (old new : Option TermId) → new ≡ cond (same_place (term, depth) (t, k)) (Some answer) old
    → (new ≡ old) ⊎ ((t ≡ term) × (k ≡ depth) × (new ≡ Some answer))
kept_or_new term t answer depth k old new e = go (same_place (term, depth) (t, k)) refl e
  where
    go : (b : Bool) → same_place (term, depth) (t, k) ≡ b → new ≡ cond b (Some answer) old → (new ≡ old) ⊎ ((t ≡ term) × (k ≡ depth) × (new ≡ Some answer))
    go true s e =
        let same = both_equal term.0 t.0 depth k s in
        inr (ap (λ i. record { 0 = i }) (sym same.0), sym same.1, e)
    go false s e = inl e

pub pair_kept_or_new : (a b x y : TermId) (old new : Bool) → new ≡ cond (same_pair (a, b) (x, y)) true old → (new ≡ old) ⊎ ((x ≡ a) × (y ≡ b))
pair_kept_or_new a b x y old new e = go (same_pair (a, b) (x, y)) refl e
  where
    go : (t : Bool) → same_pair (a, b) (x, y) ≡ t → new ≡ cond t true old → (new ≡ old) ⊎ ((x ≡ a) × (y ≡ b))
    go true s e =
        let same = both_equal a.0 x.0 b.0 y.0 s in
        inr (ap (λ i. record { 0 = i }) (sym same.0), ap (λ i. record { 0 = i }) (sym same.1))
    go false s e = inl e

pub term_kept_or_new : (a x : TermId) (old new : Bool) → new ≡ cond (same_term a x) true old → (new ≡ old) ⊎ (x ≡ a)
term_kept_or_new a x old new e = go (same_term a x) refl e
  where
    go : (t : Bool) → same_term a x ≡ t → new ≡ cond t true old → (new ≡ old) ⊎ (x ≡ a)
    go true s e = inr (ap (λ i. record { 0 = i }) (sym ((Decides-eqb a.0 x.0).0 s)))
    go false s e = inl e
