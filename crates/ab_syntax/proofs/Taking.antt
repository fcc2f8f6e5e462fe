-- Forms of one token, taken where the token shows a value.
use Rattle.std.proofs.Common.{◌≡◌, ℕ, ◌+◌, List, [], ◌∷◌, ◌++◌, map, refl, ap, sym, ◌∙◌, subst}
use Rattle.std.proofs.lemmas.List.{map-append}
use Rattle.ab_grammar.specs.Token.{Token}
use Rattle.ab_grammar.proofs.Following.{Follow, Anything, Showing, Without}
use Rattle.ab_grammar.specs.Nesting.{Spot}
use Rattle.ab_grammar.specs.Language.{tokens_of}
use Rattle.ab_grammar.proofs.Reading.{ReadsOff, StopsAt}
use Rattle.ab_grammar.specs.CommandForms.{One, Many, no_more, OneOrMore}
use Rattle.ab_grammar.proofs.Joining.{Example}
use Rattle.ab_grammar.proofs.Choosing.{fewer_reads}
use Rattle.ab_grammar.proofs.Looping.{SoFar, token_missing, token_apart, goes_on, ends, some_read, some_missing}
use Rattle.ab_grammar.proofs.Shown.{ShowsOne}
use Rattle.ab_expressions.specs.declared.text.Text.{Text}
use Rattle.ab_expressions.specs.Reader.{rest}
use Rattle.ab_syntax.proofs.Leaves.{takes}

module _ {A X : Type 0} (Shows : Token → A → Type 0) (meant : X → A) where
  -- the items so far were read, from ks up to here
  abbrev pub AllTo : List Token → List X → List Token → Type 0
  AllTo ks xs ms = SoFar (One Shows) (Many (One Shows)) (Without Shows) ks (map meant xs) ms

  pub one_more_shown : ShowsOne Shows → (t : Text) (i : ℕ) (ks : List Token) (xs ys : List X) (x : X) → Showing Shows (meant x) (rest t i) → ys ≡ xs ++ x ∷ [] → AllTo ks xs (rest t i) → AllTo ks ys (rest t (i + 1))
  one_more_shown shows t i ks xs ys x s e p =
      let read = takes Shows t i shows (meant x) s in
      let more = goes_on (One Shows) (Many (One Shows)) (Without Shows) ks (rest t i) (rest t (i + 1)) (map meant xs) (meant x) (token_apart Shows s.0 (rest t i) (meant x) s.1 s.2) (fewer_reads (One Shows) Anything (Follow (Many (One Shows)) (Without Shows)) (λ r f. tt) (rest t i) (rest t (i + 1)) (meant x) read) p in
      let same : map meant xs ++ meant x ∷ [] ≡ map meant ys = sym (ap (map meant) e ∙ map-append meant xs (x ∷ [])) in
      subst (λ (v : List A). SoFar (One Shows) (Many (One Shows)) (Without Shows) ks v (rest t (i + 1))) same more

  pub no_more_shown : (t : Text) (i : ℕ) (ks : List Token) (xs : List X) → Without Shows (rest t i) → AllTo ks xs (rest t i) → ReadsOff (Many (One Shows)) (Without Shows) ks (map meant xs) (rest t i)
  no_more_shown t i ks xs n p = ends (One Shows) (Many (One Shows)) (Without Shows) ks (rest t i) (map meant xs) (token_missing Shows (Follow (Many (One Shows)) (Without Shows)) (rest t i) n) p

-- one token or more, where any number was read
module _ {A X : Type 0} (Shows : Token → A → Type 0) (meant : X → A) (ks ms : List Token) where
  pub some_shown : (xs : List X) → (xs ≡ [] → ⊥) → ReadsOff (Many (One Shows)) (Without Shows) ks (map meant xs) ms → ReadsOff (OneOrMore (One Shows)) (Without Shows) ks (map meant xs) ms
  some_shown [] n p = absurd (n refl)
  some_shown (x ∷ xs) n p = some_read (One Shows) (Without Shows) ks (meant x) (map meant xs) ms p

  none_left : (w : List Spot) → Many (One Shows) w [] → ks ≡ tokens_of w ++ ms → ks ≡ ms
  none_left _ no_more e = e

  pub none_shown : (xs : List X) → xs ≡ [] → Example (One Shows) → ReadsOff (Many (One Shows)) (Without Shows) ks (map meant xs) ms → StopsAt (OneOrMore (One Shows)) (Without Shows) ks ms
  none_shown xs e x p =
      let q : ReadsOff (Many (One Shows)) (Without Shows) ks [] ms = subst (λ (v : List X). ReadsOff (Many (One Shows)) (Without Shows) ks (map meant v) ms) e p in
      subst (λ (w : List Token). StopsAt (OneOrMore (One Shows)) (Without Shows) ks w) (none_left q.read q.reads.is q.tokens) (some_missing (One Shows) (Without Shows) ks ms x q)
