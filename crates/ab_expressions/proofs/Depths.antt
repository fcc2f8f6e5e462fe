-- The depth that layers make, as a layer is put on top or taken off.
use Rattle.std.proofs.Common.{◌≡◌, ℕ, suc, ◌+◌, ◌-◌, List, ◌∷◌, ◌⊎◌, inl, inr, ap, sym, ◌∙◌, arith}
use Rattle.ab_grammar.specs.Nesting.{Layer, opened, closed, depth_of, nest}
use Rattle.ab_expressions.specs.declared.kind.Kind.{Kind}
use Rattle.ab_expressions.specs.declared.kind.Kind.TheVariants.{LeftParen, LeftBrace, LeftBracket, RightParen, RightBrace, RightBracket}
use Rattle.ab_expressions.specs.Kinds.{meaning}

module _ (n : ℕ) (l m : Layer) (ls ms : List Layer) where
  -- below l are m and ms
  pub opens : ls ≡ l ∷ ms → n ≡ depth_of (l ∷ ms) → n + 1 ≡ depth_of (opened l ∷ ls)
  opens e d = let f : depth_of (opened l ∷ ls) ≡ suc (0 + depth_of (l ∷ ms)) = ap (λ (x : List Layer). depth_of (opened l ∷ x)) e in omega arith

  opens_by : (k : Kind) (w : List ℕ) (p : ℕ) → (k ≡ LeftParen) ⊎ ((k ≡ LeftBrace) ⊎ (k ≡ LeftBracket)) → opened l ∷ l ∷ ms ≡ nest (l ∷ ms) (meaning k w p)
  opens_by k w p (inl e) = ap (λ (j : Kind). nest (l ∷ ms) (meaning j w p)) (sym e)
  opens_by k w p (inr (inl e)) = ap (λ (j : Kind). nest (l ∷ ms) (meaning j w p)) (sym e)
  opens_by k w p (inr (inr e)) = ap (λ (j : Kind). nest (l ∷ ms) (meaning j w p)) (sym e)

  pub opens_to : (k : Kind) (w : List ℕ) (p : ℕ) → (k ≡ LeftParen) ⊎ ((k ≡ LeftBrace) ⊎ (k ≡ LeftBracket)) → ls ≡ l ∷ ms → opened l ∷ ls ≡ nest (l ∷ ms) (meaning k w p)
  opens_to k w p is e = ap (λ (x : List Layer). opened l ∷ x) e ∙ opens_by k w p is

  closes_by : (k : Kind) (w : List ℕ) (p : ℕ) → (k ≡ RightParen) ⊎ ((k ≡ RightBrace) ⊎ (k ≡ RightBracket)) → closed (l ∷ ls) ≡ nest (l ∷ ls) (meaning k w p)
  closes_by k w p (inl e) = ap (λ (j : Kind). nest (l ∷ ls) (meaning j w p)) (sym e)
  closes_by k w p (inr (inl e)) = ap (λ (j : Kind). nest (l ∷ ls) (meaning j w p)) (sym e)
  closes_by k w p (inr (inr e)) = ap (λ (j : Kind). nest (l ∷ ls) (meaning j w p)) (sym e)

  pub closes_to : (k : Kind) (w : List ℕ) (p : ℕ) → (k ≡ RightParen) ⊎ ((k ≡ RightBrace) ⊎ (k ≡ RightBracket)) → ls ≡ m ∷ ms → m ∷ ms ≡ nest (l ∷ ls) (meaning k w p)
  closes_to k w p is e = sym (ap (λ (x : List Layer). closed (l ∷ x)) e) ∙ closes_by k w p is

  pub closes : ls ≡ m ∷ ms → n ≡ depth_of (l ∷ ls) → (n - l.count) - 1 ≡ depth_of (m ∷ ms)
  closes e d = let f : depth_of (l ∷ ls) ≡ suc (l.count + depth_of (m ∷ ms)) = ap (λ (x : List Layer). depth_of (l ∷ x)) e in omega arith
