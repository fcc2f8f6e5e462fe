-- A machine that reads a language goes through all tokens, or stops at one: what is found is found there, or at their end. And what
-- is found of a language at the front of all tokens is their answer.
use Rattle.std.proofs.Common.{◌≡◌, ◌+◌, ◌<◌, ◌≤◌, List, [], ◌∷◌, ◌++◌, Option, Some, None, length, drop, refl, ap, sym, ◌∙◌, subst, length-append, ◌⊎◌, inl, inr, arith}
use Rattle.ab_grammar.specs.Token.{Token, word, truth, quantifier, pi_word, sign, left_paren, right_paren, left_brace, right_brace, left_bracket, right_bracket, turnstile, backslash, comma, colon, other}
use Rattle.ab_grammar.specs.Nesting.{Spot, Layer, nest, depth_of, limit}
use Rattle.ab_grammar.specs.Language.{tokens_of}
use Rattle.ab_grammar.proofs.Following.{Follower, by_end, by_right_paren, by_right_brace, by_right_bracket, by_turnstile, by_comma, by_colon, by_other, Followed}
use Rattle.ab_grammar.proofs.Reading.{ReadsOff, StopsAt, NestsAt}
use Rattle.ab_grammar.proofs.WholeTexts as texts
use Rattle.ab_language_laws.specs.TextAnswers.{HasAnswer, accepted, refused, too_nested}
use Rattle.ab_language_laws.proofs.Outcomes.{Outcome, is_read, is_stopped, is_deep, Total}

follower : (k : Token) → Follower (Some k) ⊎ (Follower (Some k) → ⊥)
follower (word x p) = inr (λ f. elim f [ ])
follower (truth x p) = inr (λ f. elim f [ ])
follower (quantifier q p) = inr (λ f. elim f [ ])
follower (pi_word p) = inr (λ f. elim f [ ])
follower (sign o) = inr (λ f. elim f [ ])
follower left_paren = inr (λ f. elim f [ ])
follower right_paren = inl by_right_paren
follower (left_brace p) = inr (λ f. elim f [ ])
follower right_brace = inl by_right_brace
follower left_bracket = inr (λ f. elim f [ ])
follower right_bracket = inl by_right_bracket
follower turnstile = inl by_turnstile
follower backslash = inr (λ f. elim f [ ])
follower comma = inl by_comma
follower colon = inl by_colon
follower (other o) = inl (by_other o)

module _ {S A : Type 0} (step : S → Token → Option S) (finish : S → Option A) (G : List Spot → A → Type 0) (SoFar : List Token → List Token → S → List Layer → Type 0)
    (goes : (ks : List Token) (k : Token) (rest : List Token) (s : S) (ls : List Layer) → SoFar ks (k ∷ rest) s ls → (t : S) → step s k ≡ Some t → depth_of (nest ls k) ≤ limit → SoFar ks rest t (nest ls k))
    (done : (ks : List Token) (k : Token) (rest : List Token) (s : S) (ls : List Layer) → SoFar ks (k ∷ rest) s ls → (a : A) → step s k ≡ None → finish s ≡ Some a → ReadsOff G Followed ks a (k ∷ rest))
    (wrong : (ks : List Token) (k : Token) (rest : List Token) (s : S) (ls : List Layer) → SoFar ks (k ∷ rest) s ls → step s k ≡ None → (finish s ≡ None) ⊎ (Follower (Some k) → ⊥) → StopsAt G Followed ks (k ∷ rest))
    (too_deep : (ks : List Token) (k : Token) (rest : List Token) (s : S) (ls : List Layer) → SoFar ks (k ∷ rest) s ls → (t : S) → step s k ≡ Some t → (depth_of (nest ls k) ≤ limit → ⊥) → NestsAt G Followed ks (k ∷ rest))
    (done_at_end : (ks : List Token) (s : S) (ls : List Layer) → SoFar ks [] s ls → (a : A) → finish s ≡ Some a → ReadsOff G Followed ks a [])
    (wrong_at_end : (ks : List Token) (s : S) (ls : List Layer) → SoFar ks [] s ls → finish s ≡ None → StopsAt G Followed ks [])
    (ts : List Token) where
  -- the machine takes the token k no more
  module _ (k : Token) (rest : List Token) (s : S) (ls : List Layer) (p : SoFar ts (k ∷ rest) s ls) (q : step s k ≡ None) where
    by_finish : (o : Option A) → finish s ≡ o → Follower (Some k) ⊎ (Follower (Some k) → ⊥) → Outcome G Followed ts
    by_finish None f c = is_stopped (k ∷ rest) (wrong ts k rest s ls p q (inl f))
    by_finish (Some a) f (inr c) = is_stopped (k ∷ rest) (wrong ts k rest s ls p q (inr c))
    by_finish (Some a) f (inl c) = is_read a (k ∷ rest) (done ts k rest s ls p a q f)

  -- at a token
  module _ (k : Token) (rest : List Token) (s : S) (ls : List Layer) (p : SoFar ts (k ∷ rest) s ls) where
    abbrev GoesOn : Type 0
    GoesOn = (t : S) → step s k ≡ Some t → depth_of (nest ls k) ≤ limit → Outcome G Followed ts

    by_depth : GoesOn → (t : S) → step s k ≡ Some t → (depth_of (nest ls k) ≤ limit) ⊎ (limit < depth_of (nest ls k)) → Outcome G Followed ts
    by_depth on t q (inl h) = on t q h
    by_depth on t q (inr h) = is_deep (k ∷ rest) (too_deep ts k rest s ls p t q (λ d. omega arith))

    goes_on : GoesOn → (o : Option S) → step s k ≡ o → Outcome G Followed ts
    goes_on on None q = by_finish k rest s ls p q (finish s) refl (follower k)
    goes_on on (Some t) q = by_depth on t q (search (arith))

  -- at the end
  at_end : (s : S) (ls : List Layer) → SoFar ts [] s ls → (o : Option A) → finish s ≡ o → Outcome G Followed ts
  at_end s ls p None f = is_stopped [] (wrong_at_end ts s ls p f)
  at_end s ls p (Some a) f = is_read a [] (done_at_end ts s ls p a f)

  pub walk : (ks : List Token) (s : S) (ls : List Layer) → SoFar ts ks s ls → Outcome G Followed ts
  walk [] s ls p = at_end s ls p (finish s) refl
  walk (k ∷ ks) s ls p = goes_on k ks s ls p (λ t q h. walk ks t (nest ls k) (goes ts k ks s ls p t q h)) (step s k) refl

-- what is left behind a front
behind_front : (us ms : List Token) → ms ≡ drop (length us) (us ++ ms)
behind_front [] ms = refl
behind_front (k ∷ us) ms = behind_front us ms

module _ {A : Type 0} (G : List Spot → A → Type 0) (ts : List Token) where
  module _ (us ms : List Token) (e : ts ≡ us ++ ms) where
    here : ms ≡ drop (length us) ts
    here = behind_front us ms ∙ ap (drop (length us)) (sym e)

    many : length us + length ms ≡ length ts
    many = let h = ap length e in omega (arith, h, length-append us ms)

  read_to : (a : A) (ms : List Token) → ReadsOff G Followed ts a ms → HasAnswer G ts
  read_to a [] r = accepted (texts.accepted G Followed by_end ts a r)
  read_to a (k ∷ ks) r =
      let us = tokens_of r.read in
      let h = many us (k ∷ ks) r.tokens in
      refused (texts.refused G Followed by_end ts a (length us) (omega (arith, h)) (subst (λ (w : List Token). ReadsOff G Followed ts a w) (here us (k ∷ ks) r.tokens) r))

  answer_found : Outcome G Followed ts → HasAnswer G ts
  answer_found (is_read a ms r) = read_to a ms r
  answer_found (is_stopped ms r) =
      let us = tokens_of r.read in
      let h = many us ms r.tokens in
      refused (texts.stopped G Followed by_end ts (length us) (omega (arith, h)) (subst (λ (w : List Token). StopsAt G Followed ts w) (here us ms r.tokens) r))
  answer_found (is_deep ms r) =
      let us = tokens_of r.read in
      let h = many us ms r.tokens in
      let l = ap length r.next in
      too_nested (texts.nested G Followed by_end ts (length us) (omega (arith, h, l)) (subst (λ (w : List Token). NestsAt G Followed ts w) (here us ms r.tokens) r))

-- a language of which something is found in front of all tokens has an answer for them
pub answer : {A : Type 0} (G : List Spot → A → Type 0) → Total G Followed → (ts : List Token) → HasAnswer G ts
answer G total ts = answer_found G ts (total ts)
