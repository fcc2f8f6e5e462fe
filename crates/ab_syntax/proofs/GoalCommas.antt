-- The tokens of an item, one by one: which brackets are open behind each, and that none is a full stop yet.
use Rattle.std.proofs.Common.{◌≡◌, ◌↔◌, ◌<◌, ◌≤◌, ◌+◌, ℕ, Bool, true, false, map, take, drop, get_or, length, append_assoc, List, [], ◌∷◌, ◌++◌, ◌⊎◌, inl, inr, refl, ap, sym, ◌∙◌}
use Rattle.std.proofs.lemmas.List.{map-append, take_more, drop_more}
use Rattle.ab_grammar.specs.Token.{Token, other, stop}
use Rattle.ab_grammar.specs.FileTokens.{Open, outer, opened, sentence}
use Rattle.ab_expressions.specs.declared.kind.Kind.{Kind}
use Rattle.ab_expressions.specs.declared.kind.Kind.TheVariants.{LeftParen, LeftBrace, LeftBracket, RightParen, RightBrace, RightBracket}
use Rattle.ab_expressions.specs.Kinds.{meaning}

sentence_step : (k : Token) (ks : List Token) → (k ≡ other stop → ⊥) → sentence (k ∷ ks) ≡ k ∷ sentence ks
sentence_step (other stop) ks n = absurd (n refl)
sentence_step k ks n = refl

module _ (o p : Open) (os ps : List Open) where
  closes_by : (k : Kind) (w : List ℕ) (n : ℕ) → (k ≡ RightParen) ⊎ ((k ≡ RightBrace) ⊎ (k ≡ RightBracket)) → outer (o ∷ os) ≡ opened (o ∷ os) (meaning k w n)
  closes_by k w n (inl e) = ap (λ (j : Kind). opened (o ∷ os) (meaning j w n)) (sym e)
  closes_by k w n (inr (inl e)) = ap (λ (j : Kind). opened (o ∷ os) (meaning j w n)) (sym e)
  closes_by k w n (inr (inr e)) = ap (λ (j : Kind). opened (o ∷ os) (meaning j w n)) (sym e)

  pub closes_to : (k : Kind) (w : List ℕ) (n : ℕ) → (k ≡ RightParen) ⊎ ((k ≡ RightBrace) ⊎ (k ≡ RightBracket)) → os ≡ p ∷ ps → p ∷ ps ≡ opened (o ∷ os) (meaning k w n)
  closes_to k w n is e = sym (ap (λ (x : List Open). outer (o ∷ x)) e) ∙ closes_by k w n is

abbrev with_parenthesis : Bool → Open → Open
with_parenthesis b o = record { parenthesis = b; naming = o.naming }

module _ (o : Open) (os : List Open) where
  opens_by : (k : Kind) (w : List ℕ) (n : ℕ) (b : Bool) → (b ≡ true) ↔ (k ≡ LeftParen) → (k ≡ LeftParen) ⊎ ((k ≡ LeftBrace) ⊎ (k ≡ LeftBracket)) → with_parenthesis b o ∷ o ∷ os ≡ opened (o ∷ os) (meaning k w n)
  opens_by k w n b same (inl e) = ap (λ (c : Bool). with_parenthesis c o ∷ o ∷ os) (same.1 e) ∙ ap (λ (j : Kind). opened (o ∷ os) (meaning j w n)) (sym e)
  opens_by k w n true same (inr (inl e)) = let bad : LeftParen ≡ LeftBrace = sym (same.0 refl) ∙ e in absurd (cc)
  opens_by k w n true same (inr (inr e)) = let bad : LeftParen ≡ LeftBracket = sym (same.0 refl) ∙ e in absurd (cc)
  opens_by k w n false same (inr (inl e)) = ap (λ (j : Kind). opened (o ∷ os) (meaning j w n)) (sym e)
  opens_by k w n false same (inr (inr e)) = ap (λ (j : Kind). opened (o ∷ os) (meaning j w n)) (sym e)

  pub opens_to : (ps : List Open) (k : Kind) (w : List ℕ) (n : ℕ) (b : Bool) → (b ≡ true) ↔ (k ≡ LeftParen) → (k ≡ LeftParen) ⊎ ((k ≡ LeftBrace) ⊎ (k ≡ LeftBracket)) → ps ≡ o ∷ os → with_parenthesis b o ∷ ps ≡ opened (o ∷ os) (meaning k w n)
  opens_to ps k w n b same is e = ap (λ (x : List Open). with_parenthesis b o ∷ x) e ∙ opens_by k w n b same is

-- the tokens of a list, up to the i-th and from there on
module _ {X : Type 0} (f : X → Token) (ts : List X) (i : ℕ) (d : X) (h : i < length ts) where
  next_of : map f (drop i ts) ≡ f (get_or ts i d) ∷ map f (drop (i + 1) ts)
  next_of = ap (map f) (drop_more ts i d h)

  taken_on : map f (take (i + 1) ts) ≡ map f (take i ts) ++ f (get_or ts i d) ∷ []
  taken_on = ap (map f) (take_more ts i d h) ∙ map-append f (take i ts) (get_or ts i d ∷ [])

  module _ (so_far : sentence (map f ts) ≡ map f (take i ts) ++ sentence (map f (drop i ts))) where
    behind_next : sentence (map f ts) ≡ map f (take i ts) ++ sentence (f (get_or ts i d) ∷ map f (drop (i + 1) ts))
    behind_next = so_far ∙ ap (λ (ks : List Token). map f (take i ts) ++ sentence ks) next_of

    pub no_stop_yet : (f (get_or ts i d) ≡ other stop → ⊥) → sentence (map f ts) ≡ map f (take (i + 1) ts) ++ sentence (map f (drop (i + 1) ts))
    no_stop_yet n =
        behind_next ∙ ap (λ (ks : List Token). map f (take i ts) ++ ks) (sentence_step (f (get_or ts i d)) (map f (drop (i + 1) ts)) n)
        ∙ sym (append_assoc (map f (take i ts)) (f (get_or ts i d) ∷ []) (sentence (map f (drop (i + 1) ts))))
        ∙ ap (λ (ks : List Token). ks ++ sentence (map f (drop (i + 1) ts))) (sym taken_on)
