-- Of a list of tokens only one thing is true: it is a text, or it is refused at one token, for its form or for its depth.
use Rattle.std.proofs.Common.{◌≡◌, ℕ, zero, suc, ◌<◌, ◌≤◌, List, [], ◌∷◌, ◌++◌, length, take, drop, All, refl, ap, sym, ◌∙◌, subst, arith, append_assoc, take-append-drop, ◌⊎◌, inl, inr}
use Rattle.std.proofs.lemmas.List.Elements.{All-head, All-tail}
use Rattle.std.proofs.lemmas.List.{length-map}
use Rattle.ab_grammar.specs.Token.{Token}
use Rattle.ab_grammar.specs.Nesting.{Spot, IsShallow}
use Rattle.ab_grammar.specs.Language.{tokens_of, Begins, Accepted, SyntaxAt, TooNestedAt}
use Rattle.ab_grammar.proofs.Lists.{tokens_of-append}

-- what stands in front of a longer list
in_front : (P : Spot → Type 0) (a b c d : List Spot) (s : Spot) → a ++ b ≡ c ++ s ∷ d → length c < length a → All P a → P s
in_front P [] b c d s e h all = absurd (omega arith)
in_front P (x ∷ a) b [] d s e h all = let same : x ≡ s = cc in subst P same (All-head P x a all)
in_front P (x ∷ a) b (y ∷ c) d s e h all = let rest : a ++ b ≡ c ++ s ∷ d = cc in in_front P a b c d s rest (omega arith) (All-tail P x a all)

length_take : (i : ℕ) (ts : List Token) → i ≤ length ts → length (take i ts) ≡ i
length_take zero [] h = refl
length_take zero (t ∷ ts) h = refl
length_take (suc i) [] h = absurd (omega arith)
length_take (suc i) (t ∷ ts) h = ap suc (length_take i ts (omega arith))

-- the first tokens of the first tokens
first_of_first : (i j : ℕ) (ts : List Token) → i ≤ j → take j ts ≡ take i ts ++ drop i (take j ts)
first_of_first zero zero [] h = refl
first_of_first zero (suc j) [] h = refl
first_of_first zero zero (t ∷ ts) h = refl
first_of_first zero (suc j) (t ∷ ts) h = refl
first_of_first (suc i) zero ts h = absurd (omega arith)
first_of_first (suc i) (suc j) [] h = refl
first_of_first (suc i) (suc j) (t ∷ ts) h = ap (λ (w : List Token). t ∷ w) (first_of_first i j ts (omega arith))

count : (us : List Spot) (i : ℕ) (ts : List Token) → i ≤ length ts → tokens_of us ≡ take i ts → length us ≡ i
count us i ts h e = sym (length-map us (λ s. s.token)) ∙ ap length e ∙ length_take i ts h

drop_last : (c : List Spot) (s : Spot) (n : ℕ) (ts : List Token) → n < length ts → tokens_of (c ++ s ∷ []) ≡ take (suc n) ts → tokens_of c ≡ take n ts
drop_last c s n [] h e = absurd (omega arith)
drop_last [] s zero (t ∷ ts) h e = refl
drop_last [] s (suc n) (t ∷ []) h e = absurd (omega arith)
drop_last [] s (suc n) (t ∷ u ∷ ts) h e = absurd (cc)
drop_last (x ∷ []) s zero (t ∷ ts) h e = absurd (cc)
drop_last (x ∷ y ∷ c) s zero (t ∷ ts) h e = absurd (cc)
drop_last (x ∷ c) s (suc n) (t ∷ ts) h e =
    let same : x.token ≡ t = cc in
    let rest : tokens_of (c ++ s ∷ []) ≡ take (suc n) ts = cc in
    ap (λ (k : Token). k ∷ tokens_of c) same ∙ ap (λ (w : List Token). t ∷ w) (drop_last c s n ts (omega arith) rest)

neither_before : (i j : ℕ) → (i < j → ⊥) → (j < i → ⊥) → i ≡ j
neither_before zero zero h k = refl
neither_before zero (suc j) h k = absurd (h (omega arith))
neither_before (suc i) zero h k = absurd (k (omega arith))
neither_before (suc i) (suc j) h k = ap suc (neither_before i j (λ l. h (omega arith)) (λ l. k (omega arith)))

module _ {A : Type 0} (G : List Spot → A → Type 0) (ts : List Token) where
  -- a text that begins with the first tokens begins with fewer of them too
  longer : (i j : ℕ) (us : List Spot) (b : Begins G us) → i ≤ j → tokens_of us ≡ take j ts → (zs : List Token) × (tokens_of (us ++ b.rest) ≡ take i ts ++ zs)
  longer i j us b h e = (
    drop i (take j ts) ++ tokens_of (b.rest),
    tokens_of-append us (b.rest) ∙ ap (λ (w : List Token). w ++ tokens_of (b.rest)) (e ∙ first_of_first i j ts h) ∙ append_assoc (take i ts) (drop i (take j ts)) (tokens_of (b.rest)),
  )

  pub text_or_syntax : (a : A) (i : ℕ) → Accepted G ts a → SyntaxAt G ts i → ⊥
  text_or_syntax a i p q = by_place (q.none)
    where
      by_place : ((i < length ts) × ((w : List Spot) (b : A) (zs : List Token) → G w b → tokens_of w ≡ take (suc i) ts ++ zs → ⊥)) ⊎ ((i ≡ length ts) × ((w : List Spot) (b : A) → G w b → tokens_of w ≡ ts → ⊥)) → ⊥
      by_place (inl (h, n)) = n (p.read) a (drop (suc i) ts) (p.text) (p.tokens ∙ sym (take-append-drop (suc i) ts))
      by_place (inr (h, n)) = n (p.read) a (p.text) (p.tokens)

  pub text_or_nested : (a : A) (i : ℕ) → Accepted G ts a → TooNestedAt G ts i → ⊥
  text_or_nested a i p q =
      let o = q.only (p.read) a (drop (suc i) ts) (p.text) (p.tokens ∙ sym (take-append-drop (suc i) ts)) in
      q.deep (in_middle (p.read) (q.read) (o.0) (q.last) (o.1) (p.shallow))
    where
      in_middle : (w c d : List Spot) (s : Spot) → w ≡ c ++ s ∷ d → All IsShallow w → IsShallow s
      in_middle [] [] d s e all = absurd (cc)
      in_middle [] (y ∷ c) d s e all = absurd (cc)
      in_middle (x ∷ w) [] d s e all = let same : x ≡ s = cc in subst IsShallow same (All-head IsShallow x w all)
      in_middle (x ∷ w) (y ∷ c) d s e all = let rest : w ≡ c ++ s ∷ d = cc in in_middle w c d s rest (All-tail IsShallow x w all)

  -- a text begins with tokens, of which all are read where nothing is nested too deep: none of them is the one that is
  before_nested : (i j : ℕ) (us : List Spot) → Begins G us → i < j → j ≤ length ts → tokens_of us ≡ take j ts → All IsShallow us → TooNestedAt G ts i → ⊥
  before_nested i j us b h k e all q =
      let l = longer (suc i) j us b (omega arith) e in
      let o = q.only (us ++ b.rest) (b.value) (l.0) (b.text) (l.1) in
      let many = count us j ts k e in
      let some = count (q.read) i ts (omega arith) (drop_last (q.read) (q.last) i ts (q.within) (q.tokens)) in
      q.deep (in_front IsShallow us (b.rest) (q.read) (o.0) (q.last) (o.1) (omega arith) all)

  syntax_before : (i j : ℕ) (us : List Spot) → Begins G us → i < j → j ≤ length ts → tokens_of us ≡ take j ts → SyntaxAt G ts i → ⊥
  syntax_before i j us b h k e q = by_place (q.none)
    where
      by_place : ((i < length ts) × ((w : List Spot) (b : A) (zs : List Token) → G w b → tokens_of w ≡ take (suc i) ts ++ zs → ⊥)) ⊎ ((i ≡ length ts) × ((w : List Spot) (b : A) → G w b → tokens_of w ≡ ts → ⊥)) → ⊥
      by_place (inl (l, n)) = let m = longer (suc i) j us b (omega arith) e in n (us ++ b.rest) (b.value) (m.0) (b.text) (m.1)
      by_place (inr (l, n)) = absurd (omega arith)

  at_most : (i : ℕ) → SyntaxAt G ts i → i ≤ length ts
  at_most i q = by_place (q.none)
    where
      by_place : ((i < length ts) × ((w : List Spot) (b : A) (zs : List Token) → G w b → tokens_of w ≡ take (suc i) ts ++ zs → ⊥)) ⊎ ((i ≡ length ts) × ((w : List Spot) (b : A) → G w b → tokens_of w ≡ ts → ⊥)) → i ≤ length ts
      by_place (inl (l, n)) = omega arith
      by_place (inr (l, n)) = omega arith

  pub syntax_or_nested : (i j : ℕ) → SyntaxAt G ts i → TooNestedAt G ts j → ⊥
  syntax_or_nested i j p q = by_order (below_or_not i j)
    where
      below_or_not : (m n : ℕ) → (m ≤ n) ⊎ (n < m)
      below_or_not zero n = inl (omega arith)
      below_or_not (suc m) zero = inr (omega arith)
      below_or_not (suc m) (suc n) = up (below_or_not m n)
        where
          up : (m ≤ n) ⊎ (n < m) → (suc m ≤ suc n) ⊎ (suc n < suc m)
          up (inl h) = inl (omega arith)
          up (inr h) = inr (omega arith)

      by_order : (i ≤ j) ⊎ (j < i) → ⊥
      by_order (inl h) = syntax_before i (suc j) (q.read ++ q.last ∷ []) (q.begins) (omega arith) (let w = q.within in omega arith) (q.tokens) p
      by_order (inr h) = before_nested j i (p.read) (p.begins) h (at_most i p) (p.tokens) (p.shallow) q

  not_before_syntax : (i j : ℕ) → SyntaxAt G ts i → SyntaxAt G ts j → i < j → ⊥
  not_before_syntax i j p q h = syntax_before i j (q.read) (q.begins) h (at_most j q) (q.tokens) p

  not_before_nested : (i j : ℕ) → TooNestedAt G ts i → TooNestedAt G ts j → i < j → ⊥
  not_before_nested i j p q h =
      before_nested i j (q.read)
      (record { rest = q.last ∷ q.begins.rest; value = q.begins.value; text = subst (λ (w : List Spot). G w (q.begins.value)) (append_assoc (q.read) (q.last ∷ []) (q.begins.rest)) (q.begins.text) })
      h (let w = q.within in omega arith) (drop_last (q.read) (q.last) j ts (q.within) (q.tokens)) (q.shallow) p

  pub one_syntax : (i j : ℕ) → SyntaxAt G ts i → SyntaxAt G ts j → i ≡ j
  one_syntax i j p q = neither_before i j (not_before_syntax i j p q) (not_before_syntax j i q p)

  pub one_nested : (i j : ℕ) → TooNestedAt G ts i → TooNestedAt G ts j → i ≡ j
  one_nested i j p q = neither_before i j (not_before_nested i j p q) (not_before_nested j i q p)
