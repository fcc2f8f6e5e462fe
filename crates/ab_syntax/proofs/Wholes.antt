-- From the front of a text to all of it: what was read or refused says whether the tokens are a text.
use Rattle.std.proofs.Common.{◌≡◌, ◌≢◌, ℕ, ◌<◌, ◌≤◌, List, [], length, drop, min, Result, Ok, Err, refl, ap, sym, ◌∙◌, subst, length-drop, ◌⊎◌, inl, inr, arith}
use Rattle.std.proofs.lemmas.List.{length-map, drop-map, drop_all}
use Rattle.ab_grammar.specs.Token.{Token}
use Rattle.ab_grammar.proofs.Following.{Followed, by_end}
use Rattle.ab_grammar.specs.Nesting.{Spot}
use Rattle.ab_grammar.specs.Language.{Accepted, SyntaxAt}
use Rattle.ab_grammar.proofs.Reading.{ReadsOff, StopsAt, NestsAt}
use Rattle.ab_grammar.proofs.WholeTexts.{accepted, refused, stopped, nested}
use Rattle.ab_expressions.specs.declared.text.Text.{Text}
use Rattle.ab_expressions.specs.declared.fault.ParseFault.{ParseFault}
use Rattle.ab_expressions.specs.declared.stop.Stop.{Stop}
use Rattle.ab_expressions.specs.declared.stop.Stop.TheVariants.{Syntax, TooNested, Memory}
use Rattle.ab_expressions.specs.Reader.{seen, rest, Refused, Found}
use Rattle.ab_syntax.specs.Wholes.{Tells, Answers, IsComplete, IsAnswer, fault_of}

-- behind all tokens it doesn't matter how far
drop_min : (ts : List Token) (i : ℕ) → drop i ts ≡ drop (min i (length ts)) ts
drop_min ts i = by_place (search (arith))
  where
    by_place : (i ≤ length ts) ⊎ (length ts ≤ i) → drop i ts ≡ drop (min i (length ts)) ts
    by_place (inl h) = let m : i ≡ min i (length ts) = omega arith in ap (λ n. drop n ts) m
    by_place (inr h) = let m : length ts ≤ min i (length ts) = omega arith in drop_all i ts h ∙ sym (drop_all (min i (length ts)) ts m)

-- where a token is left, it is within
left_within : (ts : List Token) (i : ℕ) → drop i ts ≢ [] → i < length ts
left_within ts i n = by_place (search (arith))
  where
    by_place : (i < length ts) ⊎ (length ts ≤ i) → i < length ts
    by_place (inl h) = h
    by_place (inr h) = absurd (n (drop_all i ts h))

module _ (t : Text) where
  pub rest_is : (i : ℕ) → rest t i ≡ drop i (rest t 0)
  rest_is i = sym (drop-map seen i t.tokens.now)

  pub as_many : length (rest t 0) ≡ length t.tokens.now
  as_many = length-map t.tokens.now seen

  pub some_left : (i : ℕ) → i < length t.tokens.now → rest t i ≢ []
  some_left i h e = let none : length (rest t i) ≡ 0 = ap length e in omega (arith, none, length-map (drop i t.tokens.now) seen, length-drop i t.tokens.now)

  rest_at : (i : ℕ) → rest t i ≡ drop (min i (length (rest t 0))) (rest t 0)
  rest_at i = rest_is i ∙ drop_min (rest t 0) i

  module _ {A : Type 0} (G : List Spot → A → Type 0) where
    more : (a : A) (i : ℕ) → ReadsOff G Followed (rest t 0) a (rest t i) → rest t i ≢ [] → SyntaxAt G (rest t 0) (min i (length (rest t 0)))
    more a i p n =
        let h : i < length (rest t 0) = left_within (rest t 0) i (λ e. n (rest_is i ∙ e)) in
        let m : min i (length (rest t 0)) < length (rest t 0) = omega arith in
        refused G Followed by_end (rest t 0) a (min i (length (rest t 0))) m (subst (λ (w : List Token). ReadsOff G Followed (rest t 0) a w) (rest_at i) p)

    tells : (s : Stop) (i : ℕ) → Refused G Followed s (rest t 0) (rest t i) → Tells G (rest t 0) i s
    tells Syntax i p =
        let m : min i (length (rest t 0)) ≤ length (rest t 0) = omega arith in
        stopped G Followed by_end (rest t 0) (min i (length (rest t 0))) m (subst (λ (w : List Token). StopsAt G Followed (rest t 0) w) (rest_at i) p)
    tells TooNested i p =
        let h : i < length (rest t 0) = left_within (rest t 0) i (λ e. let bad = sym p.next ∙ rest_is i ∙ e in absurd (cc)) in
        nested G Followed by_end (rest t 0) i h (subst (λ (w : List Token). NestsAt G Followed (rest t 0) w) (rest_is i) p)
    tells (Memory e) i p = tt

    pub answers : {X : Type 0} (value : X → A) (i : ℕ) (part r : Result X Stop) → Found G Followed value (rest t 0) (rest t i) part → IsComplete (rest t i) part r → Answers G value (rest t 0) i r
    answers {X = X} value i (Err s) r f e = subst (λ (q : Result X Stop). Answers G value (rest t 0) i q) (sym e) (tells s i f)
    answers {X = X} value i (Ok x) (Ok y) f (e, last) =
        subst (λ (v : X). Accepted G (rest t 0) (value v)) (sym e) (accepted G Followed by_end (rest t 0) (value x) (subst (λ (w : List Token). ReadsOff G Followed (rest t 0) (value x) w) last f))
    answers value i (Ok x) (Err s) f (e, n) = subst (λ (q : Stop). Tells G (rest t 0) i q) (sym e) (more (value x) i f n)

-- what is told of a part
module _ {X : Type 0} (t : Text) (i j : ℕ) (part : Result X Stop) where
  pub all_read : (x : X) → part ≡ Ok x → length t.tokens.now ≤ i → IsAnswer t i j part (Ok x)
  all_read x e h =
      let none : rest t i ≡ [] = rest_is t i ∙ drop_all i (rest t 0) (omega (arith, h, as_many t)) in
      subst (λ (p : Result X Stop). IsAnswer t i j p (Ok x)) (sym e) (Ok x, (refl, none), refl)

  pub more_left : (x : X) (f : ParseFault) → part ≡ Ok x → i < length t.tokens.now → f ≡ fault_of t i j Syntax → IsAnswer t i j part (Err f)
  more_left x f e h is = subst (λ (p : Result X Stop). IsAnswer t i j p (Err f)) (sym e) (Err Syntax, (refl, some_left t i h), ap Err is)

  pub not_read : (s : Stop) (f : ParseFault) → part ≡ Err s → f ≡ fault_of t i j s → IsAnswer t i j part (Err f)
  not_read s f e is = subst (λ (p : Result X Stop). IsAnswer t i j p (Err f)) (sym e) (Err s, refl, ap Err is)
