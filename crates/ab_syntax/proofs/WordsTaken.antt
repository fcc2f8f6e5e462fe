-- A word that was taken, and one that isn't there.
use Rattle.std.proofs.Common.{◌≡◌, ℕ, Bool, true, false, List}
use Rattle.ab_grammar.specs.Token.{Token, word}
use Rattle.ab_grammar.specs.CommandTable.{StandsAnywhere, Word}
use Rattle.ab_grammar.proofs.Following.{Anything, Showing, Without}
use Rattle.ab_grammar.proofs.Reading.{ReadsOff}
use Rattle.ab_expressions.specs.Reader.{IsWordTaken}

module _ (x : List ℕ) (ks ms : List Token) where
  pub word_taken : (b : Bool) → b ≡ true → IsWordTaken x ks ms b → Showing (StandsAnywhere (word x)) tt ks × ReadsOff (Word x) Anything ks tt ms
  word_taken true e h = h
  word_taken false e h = let bad : false ≡ true = e in absurd (cc)

  pub no_word_taken : (b : Bool) → b ≡ false → IsWordTaken x ks ms b → Without (StandsAnywhere (word x)) ks × (ms ≡ ks)
  no_word_taken false e h = h
  no_word_taken true e h = let bad : true ≡ false = e in absurd (cc)
