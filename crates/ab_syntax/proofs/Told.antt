-- What is told of a whole text, in bytes.
use Rattle.std.proofs.Common.{◌≡◌, ℕ, zero, suc, ◌<◌, ◌≤◌, List, [], ◌∷◌, length, map, min, get_or, Result, Ok, Err, IfOk, refl, ap, sym, ◌∙◌, subst, ◌⊎◌, inl, inr, arith}
use Rattle.std.proofs.lemmas.List.{length-map}
use Rattle.ab_lex.specs.declared.token.Token.{Token as Lexed}
use Rattle.ab_grammar.specs.Token.{Token}
use Rattle.ab_grammar.specs.Nesting.{Spot, blamed}
use Rattle.ab_grammar.specs.Language.{Accepted, SyntaxAt, TooNestedAt}
use Rattle.ab_grammar.proofs.Following.{Followed}
use Rattle.ab_expressions.specs.declared.text.Text.{Text}
use Rattle.ab_expressions.specs.declared.stop.Stop.{Stop}
use Rattle.ab_expressions.specs.declared.stop.Stop.TheVariants.{Syntax, TooNested, Memory}
use Rattle.ab_expressions.specs.declared.fault.ParseFault.{ParseFault}
use Rattle.ab_expressions.specs.declared.fault.ParseFault.TheVariants as fault
use Rattle.ab_expressions.specs.Tokens.{tokens_from}
use Rattle.ab_syntax.specs.Faults.{place_from, place_past, IsTold, IsCommandPlaceFrom}
use Rattle.ab_expressions.specs.Reader.{seen, place_of, rest, Found}
use Rattle.ab_syntax.specs.Wholes.{Answers, IsAnswer, place_in, fault_of, told_by}
use Rattle.ab_syntax.proofs.Wholes.{as_many, answers}

place_listed : (e o : ℕ) (ts : List Lexed) (i : ℕ) → get_or (map (place_of o) ts) i e ≡ place_from e o ts i
place_listed e o [] i = refl
place_listed e o (t ∷ ts) zero = refl
place_listed e o (t ∷ ts) (suc i) = place_listed e o ts i

place_behind : (e o : ℕ) (ts : List Lexed) (i : ℕ) → length ts ≤ i → e ≡ place_from e o ts i
place_behind e o [] i h = refl
place_behind e o (t ∷ ts) zero h = absurd (omega arith)
place_behind e o (t ∷ ts) (suc i) h = place_behind e o ts i (omega arith)

-- behind all tokens it doesn't matter how far
place_min : (e o : ℕ) (ts : List Lexed) (i : ℕ) → place_from e o ts i ≡ place_from e o ts (min i (length ts))
place_min e o ts i = by_place (search (arith))
  where
    by_place : (i < length ts) ⊎ (length ts ≤ i) → place_from e o ts i ≡ place_from e o ts (min i (length ts))
    by_place (inl h) = let m : i ≡ min i (length ts) = omega arith in ap (place_from e o ts) m
    by_place (inr h) = let m : length ts ≤ min i (length ts) = omega arith in sym (place_behind e o ts i h) ∙ place_behind e o ts (min i (length ts)) m

-- a text, where these are its tokens, and where they stand
module _ (t : Text) (bytes : List ℕ) (o : ℕ) (ts : List Lexed) (ks : List Token) (all : (map seen t.tokens.now ≡ ks) × (map (λ s. s.place) t.tokens.now ≡ map (place_of o) ts)) (end : t.end ≡ length bytes) where
  place_is : (i : ℕ) → place_in t i ≡ place_past bytes o ts i
  place_is i = ap (λ (ps : List ℕ). get_or ps i t.end) all.1 ∙ ap (λ e. get_or (map (place_of o) ts) i e) end ∙ place_listed (length bytes) o ts i

  token_count : length ts ≡ length ks
  token_count = sym (length-map ts (place_of o)) ∙ sym (ap length all.1) ∙ length-map t.tokens.now (λ s. s.place) ∙ sym (length-map t.tokens.now seen) ∙ ap length all.0

  module _ {A : Type 0} (G : List Spot → A → Type 0) where
    -- the token that is refused
    pub refused_token : (i place : ℕ) → SyntaxAt G ks (min i (length ks)) → place_in t i ≡ place → (j : ℕ) × SyntaxAt G ks j × (place ≡ place_past bytes o ts j)
    refused_token i place h e =
        let m = min i (length ks) in
        (m, h, sym e ∙ place_is i ∙ place_min (length bytes) o ts i ∙ ap (λ n. place_past bytes o ts (min i n)) token_count)

    -- the token that is told to be no command
    pub refused_command : ks ≡ tokens_from bytes o ts → (i j place : ℕ) → IsTold (rest t 0) (min i (length t.tokens.now)) j → SyntaxAt G ks (min i (length ks)) → place_in t j ≡ place → (m : ℕ) × SyntaxAt G ks m × IsCommandPlaceFrom bytes o ts m place
    refused_command same i j place told h e =
        let many : length t.tokens.now ≡ length ks = sym (as_many t) ∙ ap length all.0 in
        (min i (length ks), h, (j, subst (λ (w : List Token). IsTold w (min i (length ks)) j) (all.0 ∙ same) (subst (λ (n : ℕ). IsTold (rest t 0) (min i n) j) many told), sym e ∙ place_is j))

    module _ {X : Type 0} (value : X → A) (S : ℕ → Type 0) (i j : ℕ) (refused : (place : ℕ) → SyntaxAt G ks (min i (length ks)) → place_in t j ≡ place → S place) where
      -- what is promised of an answer
      abbrev Promised : Result X ParseFault → Type 0
      Promised r = IfOk r (λ x. Accepted G ks (value x)) × (((place : ℕ) → r ≡ Err (fault.Syntax place) → S place) × ((place : ℕ) → r ≡ Err (fault.TooNested place) → (k : ℕ) × TooNestedAt G ks k × (place ≡ place_past bytes o ts (blamed ks k))))

      promised : (q : Result X Stop) → Answers G value ks i q → Promised (told_by (fault_of t i j) q)
      promised (Ok x) h = (h, (λ place e. absurd (cc), λ place e. absurd (cc)))
      promised (Err Syntax) h = (tt, (λ place e. let is : place_in t j ≡ place = cc in refused place h is, λ place e. absurd (cc)))
      promised (Err TooNested) h = (tt, (λ place e. absurd (cc), λ place e. let is : place ≡ place_in t (blamed (rest t 0) i) = cc in (i, h, is ∙ place_is _ ∙ ap (λ (w : List Token). place_past bytes o ts (blamed w i)) all.0)))
      promised (Err (Memory m)) h = (tt, (λ place e. absurd (cc), λ place e. absurd (cc)))

      pub answered : (part : Result X Stop) (r : Result X ParseFault) → Found G Followed value (rest t 0) (rest t i) part → IsAnswer t i j part r → Promised r
      answered part r f (q, c, e) = subst Promised (sym e) (promised q (subst (λ (w : List Token). Answers G value w i q) all.0 (answers t G value i part q f c)))
