-- Reading along a text: what the next token does to a machine.
use Rattle.std.proofs.Common.{◌≡◌, ℕ, zero, suc, ◌+◌, ◌<◌, List, [], ◌∷◌, length, map, drop, Option, Some, None, refl, ap, sym, ◌∙◌, add-one, arith, ◌⊎◌, inl, inr}
use Rattle.ab_grammar.specs.Token.{Token, Other, other, stop}
use Rattle.ab_grammar.proofs.Following.{Follower, by_other}
use Rattle.ab_expressions.specs.declared.located_tokens.Seen.{Seen}
use Rattle.ab_expressions.specs.declared.text.Text.{Text}
use Rattle.ab_expressions.specs.Reader.{rest, seen, next_or_stop}

-- where a token is left, there is one
taken : (xs : List Seen) (i : ℕ) (k : Token) (ks : List Token) → map seen (drop i xs) ≡ k ∷ ks → (i < length xs) × (map seen (drop (suc i) xs) ≡ ks)
taken [] zero k ks e = absurd (cc)
taken [] (suc i) k ks e = absurd (cc)
taken (x ∷ xs) zero k ks e = (omega arith, cc)
taken (x ∷ xs) (suc i) k ks e = let h = taken xs i k ks e in (omega (arith, h.0), h.1)

module _ {S : Type 0} (step : S → Token → Option S) (other_stuck : (s : S) (o : Other) → step s (other o) ≡ None) (s r : S) (t : Text) (i : ℕ) where
  -- where a machine goes on, there is a token
  pub goes_on : step s (next_or_stop (rest t i)) ≡ Some r → (i < length t.tokens.now) × (rest t i ≡ next_or_stop (rest t i) ∷ rest t (i + 1))
  goes_on e = by_rest (rest t i) refl e
    where
      by_rest : (ks : List Token) → rest t i ≡ ks → step s (next_or_stop ks) ≡ Some r → (i < length t.tokens.now) × (ks ≡ next_or_stop ks ∷ rest t (i + 1))
      by_rest [] is e = let bad : None ≡ Some r = sym (other_stuck s stop) ∙ e in absurd (cc)
      by_rest (k ∷ ks) is e =
          let h = taken t.tokens.now i k ks is in
          (h.0, ap (λ (w : List Token). k ∷ w) (sym h.1 ∙ ap (λ n. map seen (drop n t.tokens.now)) (sym (add-one i))))

-- a full stop can follow
pub no_stop : {A : Type 0} → A ⊎ (Follower (Some (other stop)) → ⊥) → A
no_stop (inl a) = a
no_stop (inr n) = absurd (n (by_other stop))
