-- What bytes say is one command or one cause why they say none, and a command that they say stands there.
use Rattle.std.proofs.Common.{◌≡◌, ◌↔◌, ◌+◌, ℕ, Bool, List, Option, Some, None, refl, sym, ap, ◌∙◌, subst, arith, inl, inr}
use Rattle.ab_lex.specs.declared.token.Token.{Token}
use Rattle.ab_lex.specs.Tokens.{TokensOf, place_of}
use Rattle.ab_lex.proofs.OneReading.{tokens_unique, fault_unique, fault_excludes}
use Rattle.ab_lex.proofs.Beginning.{one_beginning}
use Rattle.ab_grammar.specs.declared.head.Stand.{Stand}
use Rattle.ab_grammar.specs.Token.{Token as Term}
use Rattle.ab_grammar.specs.CommandTrees.{Command}
use Rattle.ab_grammar.specs.CommandTable.{CommandText, StandsAt, standing}
use Rattle.ab_grammar.specs.Language.{Accepted, SyntaxAt, TooNestedAt}
use Rattle.ab_grammar.proofs.Standing.{command_stands}
use Rattle.ab_grammar.proofs.OneCommand.{one_command}
use Rattle.ab_grammar.proofs.OneAnswer as answers
use Rattle.ab_syntax.specs.ab_expressions.specs.Tokens.{tokens_in}
use Rattle.ab_syntax.specs.Faults.{fault_place, nested_place, IsTold, IsCommandPlace}
use Rattle.ab_command.specs.declared.fault.Cause.{Cause}
use Rattle.ab_command.specs.declared.fault.Cause.TheVariants.{Syntax, WrongPlace, TooNested}
use Rattle.ab_command.specs.Supported.{IsBuilt}
use Rattle.ab_command.specs.CommandReadings.{StandsHere, FaultAtPlace, Fits, Says, Fails, no_token, out_of_place, ungrammatical, too_nested, not_built}

-- a command that is said stands there
pub said_stands : (b : List ℕ) (proving : Bool) (c : Command) → Says b proving c → StandsHere (standing c) proving
said_stands b proving c h = h.fits.stands (standing c) (command_stands (tokens_in b h.tokens) c h.spells)

-- bytes say one command
pub says_one : (b : List ℕ) (proving : Bool) (c d : Command) → Says b proving c → Says b proving d → c ≡ d
says_one b proving c d x y =
    let e = tokens_unique x.fits.tokens_are y.fits.tokens_are in
    one_command (tokens_in b y.tokens) c d (subst (λ q. Accepted CommandText (tokens_in b q) c) e x.spells) y.spells

-- One cause

-- one token is told
one_told : (ks : List Term) (i j k : ℕ) → IsTold ks i j → IsTold ks i k → j ≡ k
one_told ks i j k (inl (a, e)) (inl (c, f)) = e ∙ sym f
one_told ks i j k (inl (a, e)) (inr (n, f)) = absurd (n a)
one_told ks i j k (inr (n, e)) (inl (a, f)) = absurd (n a)
one_told ks i j k (inr (n, e)) (inr (m, f)) = e ∙ sym f

module _ (b : List ℕ) (proving : Bool) where
  same_place : (p q : ℕ) → FaultAtPlace b p → FaultAtPlace b q → p ≡ q
  same_place p q x y =
      let s = one_beginning x.begins y.begins in
      let f = fault_unique x.fault_is y.fault_is in
      let e : x.start + p ≡ x.start + q = sym x.place_is ∙ (ap place_of f ∙ (y.place_is ∙ ap (λ n. n + q) (sym s))) in
      omega arith

  no_fault : {A : Type 0} (p : ℕ) (ts : List Token) → FaultAtPlace b p → TokensOf b ts → A
  no_fault p ts x t = absurd (fault_excludes x.fault_is t)

  fits_here : {A : Type 0} (ts us : List Token) (d : Stand) → TokensOf b ts → StandsAt (tokens_in b ts) d → ¬ StandsHere d proving → Fits b proving us → A
  fits_here ts us d t s n f = absurd (n (f.stands d (subst (λ q. StandsAt (tokens_in b q) d) (tokens_unique t f.tokens_are) s)))

  module _ (ts us : List Token) (f : Fits b proving ts) (g : Fits b proving us) where
    same : tokens_in b ts ≡ tokens_in b us
    same = ap (tokens_in b) (tokens_unique f.tokens_are g.tokens_are)

    one_syntax : (i j p q : ℕ) → SyntaxAt CommandText (tokens_in b ts) i → SyntaxAt CommandText (tokens_in b us) j → IsCommandPlace b ts i p → IsCommandPlace b us j q → p ≡ q
    one_syntax i j p q x y k l =
        let e = answers.one_syntax CommandText (tokens_in b us) i j (subst (λ q. SyntaxAt CommandText q i) same x) y in
        let t = tokens_unique f.tokens_are g.tokens_are in
        let m : IsCommandPlace b us j p = subst (λ n. IsCommandPlace b us n p) e (subst (λ (w : List Token). IsCommandPlace b w i p) t k) in
        m.2 ∙ (ap (fault_place b us) (one_told (tokens_in b us) j m.0 l.0 m.1 l.1) ∙ sym l.2)

    one_nested : (i j : ℕ) → TooNestedAt CommandText (tokens_in b ts) i → TooNestedAt CommandText (tokens_in b us) j → nested_place b ts i ≡ nested_place b us j
    one_nested i j x y =
        let e = answers.one_nested CommandText (tokens_in b us) i j (subst (λ q. TooNestedAt CommandText q i) same x) y in
        ap (λ q. nested_place b q i) (tokens_unique f.tokens_are g.tokens_are) ∙ ap (nested_place b us) e

    not_both : {A : Type 0} (i j : ℕ) → SyntaxAt CommandText (tokens_in b ts) i → TooNestedAt CommandText (tokens_in b us) j → A
    not_both i j x y = absurd (answers.syntax_or_nested CommandText (tokens_in b us) i j (subst (λ q. SyntaxAt CommandText q i) same x) y)

    no_syntax : {A : Type 0} (t : Command) (i : ℕ) → Accepted CommandText (tokens_in b ts) t → SyntaxAt CommandText (tokens_in b us) i → A
    no_syntax t i x y = absurd (answers.text_or_syntax CommandText (tokens_in b us) t i (subst (λ q. Accepted CommandText q t) same x) y)

    no_nested : {A : Type 0} (t : Command) (i : ℕ) → Accepted CommandText (tokens_in b ts) t → TooNestedAt CommandText (tokens_in b us) i → A
    no_nested t i x y = absurd (answers.text_or_nested CommandText (tokens_in b us) t i (subst (λ q. Accepted CommandText q t) same x) y)

  pub fails_one : (r q : Cause) → Fails b proving r → Fails b proving q → r ≡ q
  fails_one _ _ (no_token p x) (no_token q y) = ap (λ n. Syntax n) (same_place p q x y)
  fails_one _ _ (no_token p x) (out_of_place us d t s n) = no_fault p us x t
  fails_one _ _ (no_token p x) (ungrammatical us i q g y l) = no_fault p us x g.tokens_are
  fails_one _ _ (no_token p x) (too_nested us i g y) = no_fault p us x g.tokens_are
  fails_one _ _ (no_token p x) (not_built us t g y n) = no_fault p us x g.tokens_are
  fails_one _ _ (out_of_place ts d t s n) (no_token q y) = no_fault q ts y t
  fails_one _ _ (out_of_place ts d t s n) (out_of_place us e u v m) = refl
  fails_one _ _ (out_of_place ts d t s n) (ungrammatical us i q g y l) = fits_here ts us d t s n g
  fails_one _ _ (out_of_place ts d t s n) (too_nested us i g y) = fits_here ts us d t s n g
  fails_one _ _ (out_of_place ts d t s n) (not_built us u g y m) = fits_here ts us d t s n g
  fails_one _ _ (ungrammatical ts i p f x k) (no_token q y) = no_fault q ts y f.tokens_are
  fails_one _ _ (ungrammatical ts i p f x k) (out_of_place us e u v m) = fits_here us ts e u v m f
  fails_one _ _ (ungrammatical ts i p f x k) (ungrammatical us j q g y l) = ap (λ n. Syntax n) (one_syntax ts us f g i j p q x y k l)
  fails_one _ _ (ungrammatical ts i p f x k) (too_nested us j g y) = not_both ts us f g i j x y
  fails_one _ _ (ungrammatical ts i p f x k) (not_built us u g y m) = no_syntax us ts g f u i y x
  fails_one _ _ (too_nested ts i f x) (no_token q y) = no_fault q ts y f.tokens_are
  fails_one _ _ (too_nested ts i f x) (out_of_place us e u v m) = fits_here us ts e u v m f
  fails_one _ _ (too_nested ts i f x) (ungrammatical us j q g y l) = not_both us ts g f j i y x
  fails_one _ _ (too_nested ts i f x) (too_nested us j g y) = ap (λ n. TooNested n) (one_nested ts us f g i j x y)
  fails_one _ _ (too_nested ts i f x) (not_built us u g y m) = no_nested us ts g f u i y x
  fails_one _ _ (not_built ts t f x n) (no_token q y) = no_fault q ts y f.tokens_are
  fails_one _ _ (not_built ts t f x n) (out_of_place us e u v m) = fits_here us ts e u v m f
  fails_one _ _ (not_built ts t f x n) (ungrammatical us j q g y l) = no_syntax ts us f g t j x y
  fails_one _ _ (not_built ts t f x n) (too_nested us j g y) = no_nested ts us f g t j x y
  fails_one _ _ (not_built ts t f x n) (not_built us u g y m) = refl

  -- bytes that say a command fail for no cause
  pub says_or_fails : (c : Command) (r : Cause) → Says b proving c → Fails b proving r → ⊥
  says_or_fails c _ h (no_token p x) = no_fault p h.tokens x h.fits.tokens_are
  says_or_fails c _ h (out_of_place ts d t s n) = fits_here ts h.tokens d t s n h.fits
  says_or_fails c _ h (ungrammatical ts i p f x k) = no_syntax h.tokens ts h.fits f c i h.spells x
  says_or_fails c _ h (too_nested ts i f x) = no_nested h.tokens ts h.fits f c i h.spells x
  says_or_fails c _ h (not_built ts t f x n) =
      let e = tokens_unique h.fits.tokens_are f.tokens_are in
      let g : c ≡ t = one_command (tokens_in b ts) c t (subst (λ q. Accepted CommandText (tokens_in b q) c) e h.spells) x in
      n (subst IsBuilt g h.built)

-- the place that tokens tell
module _ (b : List ℕ) (ts : List Token) (proving : Bool) (t : TokensOf b ts) (o : Option Stand) (told : (d : Stand) → (o ≡ Some d) ↔ StandsAt (tokens_in b ts) d) where
  pub fits_told : (d : Stand) → o ≡ Some d → StandsHere d proving → Fits b proving ts
  fits_told d e h = record { tokens_are = t; stands = λ f s. let same : Some d ≡ Some f = sym e ∙ (told f).1 s in let g : d ≡ f = cc in subst (λ q. StandsHere q proving) g h }

  pub fits_untold : o ≡ None → Fits b proving ts
  fits_untold e = record { tokens_are = t; stands = λ f s. let same : None ≡ Some f = sym e ∙ (told f).1 s in absurd (cc) }

  pub told_elsewhere : (d : Stand) → o ≡ Some d → ¬ StandsHere d proving → Fails b proving WrongPlace
  told_elsewhere d e n = out_of_place ts d t ((told d).0 e) n
