-- The tokens that the bytes of a printed shape are, as the grammar sees them, and which shapes hold nothing but words that
-- are read as they stand. Places don't matter here: all are 0.
use Rattle.std.specs.Prelude.{◌≡◌, ℕ, List, [], ◌∷◌, map}
use Rattle.ab_lex.specs.declared.token.Token.{Token as Lexed}
use Rattle.ab_lex.specs.declared.token.TokenKind.TheVariants.{Word}
use Rattle.ab_lex.specs.Spans.{bytes_at}
use Rattle.ab_lex.specs.Tokens.{IsWord, TokensOf}
use Rattle.ab_grammar.specs.Token as token
use Rattle.ab_grammar.specs.Token.{Token}
use Rattle.ab_syntax.specs.ab_expressions.specs.Tokens.{token_by}
use Rattle.ab_print.specs.Shapes.{Shape, word, truth, empty, applied, abstraction, join, bind, pi, judge, focus, marked, broken, Shapes, no_shapes, shape}

abbrev pub seen : List ℕ → List Lexed → List Token
seen text ts = map (λ t. token_by t.kind (bytes_at text t.span) 0) ts

-- the text's tokens are these
pub record HasTokens (text : List ℕ) (ks : List Token) : Type 0 where
  pub tokens : List Lexed
  pub reads : TokensOf text tokens
  pub same : seen text tokens ≡ ks

-- a word that isn't reserved; and one that is reserved for a formula
abbrev pub IsName : List ℕ → Type 0
IsName x = IsWord x × (token_by Word x 0 ≡ token.word x 0)

abbrev pub IsTruth : List ℕ → Type 0
IsTruth x = IsWord x × (token_by Word x 0 ≡ token.truth x 0)

abbrev pub AreNames : List (List ℕ) → Type 0
AreNames [] = Unit {0}
AreNames (x ∷ xs) = IsName x × AreNames xs

-- its names are such words, and no size mark stands in it: the grammar has none
abbrev mutual
  pub IsPlain : Shape → Type 0
  IsPlain (word x) = IsName x
  IsPlain (truth x) = IsTruth x
  IsPlain empty = Unit {0}
  IsPlain (applied f ss) = IsName f × ArePlain ss
  IsPlain (abstraction x s) = IsName x × IsPlain s
  IsPlain (join o s u) = IsPlain s × IsPlain u
  IsPlain (bind q xs s) = AreNames xs × IsPlain s
  IsPlain (pi x s) = IsName x × IsPlain s
  IsPlain (judge cs g) = ArePlain cs × IsPlain g
  IsPlain (focus cs f g) = ArePlain cs × IsPlain f × IsPlain g
  IsPlain (marked m s) = ⊥
  IsPlain broken = ⊥

  pub ArePlain : Shapes → Type 0
  ArePlain no_shapes = Unit {0}
  ArePlain (shape s ss) = IsPlain s × ArePlain ss
