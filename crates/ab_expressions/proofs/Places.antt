-- The tokens of a text from a place on.
use Rattle.std.proofs.Common.{◌≡◌, ℕ, zero, suc, ◌+◌, ◌<◌, ◌≤◌, List, [], ◌∷◌, Some, None, length, map, drop, get_or, refl, ap, sym, ◌∙◌, subst, add-one, arith, ◌⊎◌, inl, inr}
use Rattle.std.proofs.lemmas.List.{drop_more, drop_all}
use Rattle.ab_grammar.specs.Token.{Token}
use Rattle.ab_grammar.specs.Language.{Key}
use Rattle.ab_grammar.proofs.Following.{Anything, first}
use Rattle.ab_grammar.proofs.Reading.{ReadsOff}
use Rattle.ab_grammar.proofs.Choosing.{key_reads}
use Rattle.ab_expressions.specs.declared.located_tokens.Seen.{Seen}
use Rattle.ab_expressions.specs.declared.text.Text.{Text}
use Rattle.ab_expressions.specs.Reader.{seen, rest}

abbrev pub tail : {A : Type 0} → List A → List A
tail [] = []
tail (x ∷ xs) = xs

drop_next : {A : Type 0} (xs : List A) (i : ℕ) → drop (suc i) xs ≡ tail (drop i xs)
drop_next [] zero = refl
drop_next [] (suc i) = refl
drop_next (x ∷ xs) zero = refl
drop_next (x ∷ xs) (suc i) = drop_next xs i

module _ (t : Text) (i : ℕ) where
  pub rest_more : (d : Seen) → i < length t.tokens.now → rest t i ≡ seen (get_or t.tokens.now i d) ∷ rest t (i + 1)
  rest_more d h = ap (map seen) (drop_more t.tokens.now i d h)

  pub rest_past : length t.tokens.now ≤ i → rest t i ≡ []
  rest_past h = ap (map seen) (drop_all i t.tokens.now h)

  pub first_more : (d : Seen) → i < length t.tokens.now → first (rest t i) ≡ Some (seen (get_or t.tokens.now i d))
  first_more d h = ap first (rest_more d h)

  -- a next token is within the text
  pub within : (k : Token) → first (rest t i) ≡ Some k → i < length t.tokens.now
  within k e = by_place (search (arith))
    where
      by_place : (i < length t.tokens.now) ⊎ (length t.tokens.now ≤ i) → i < length t.tokens.now
      by_place (inl h) = h
      by_place (inr h) = let bad : None ≡ Some k = sym (ap first (rest_past h)) ∙ e in absurd (cc)

  seen_first : (k : Token) (ts : List Seen) → first (map seen ts) ≡ Some k → map seen ts ≡ k ∷ map seen (tail ts)
  seen_first k [] e = absurd (cc)
  seen_first k (x ∷ ts) e = let same : seen x ≡ k = cc in ap (λ (j : Token). j ∷ map seen ts) same

  pub rest_key : (k : Token) → first (rest t i) ≡ Some k → rest t i ≡ k ∷ rest t (i + 1)
  rest_key k e =
      let next : drop (i + 1) t.tokens.now ≡ tail (drop i t.tokens.now) = ap (λ n. drop n t.tokens.now) (add-one i) ∙ drop_next t.tokens.now i in
      seen_first k (drop i t.tokens.now) e ∙ ap (λ (ts : List Seen). k ∷ map seen ts) (sym next)

  pub takes_key : (k : Token) → first (rest t i) ≡ Some k → ReadsOff (Key k) Anything (rest t i) tt (rest t (i + 1))
  takes_key k e = subst (λ (w : List Token). ReadsOff (Key k) Anything w tt (rest t (i + 1))) (sym (rest_key k e)) (key_reads k (rest t (i + 1)))
