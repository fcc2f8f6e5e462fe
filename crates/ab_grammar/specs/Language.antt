-- Languages, as relations between texts and values, and what it means that a list of tokens is a text of one, or isn't.
-- A text is a list of tokens, each with the nesting at it.
use Rattle.std.specs.Prelude.{◌≡◌, ℕ, suc, ◌<◌, List, [], ◌∷◌, ◌++◌, map, All, length, take, ◌⊎◌}
use Rattle.ab_grammar.specs.Token.{Token}
use Rattle.ab_grammar.specs.Tree.{Ty, Tree}
use Rattle.ab_grammar.specs.Grammar.{Text, TypeText}
use Rattle.ab_grammar.specs.Nesting.{Spot, lone, spots, IsShallow}

abbrev pub tokens_of : List Spot → List Token
tokens_of = map (λ s. s.token)

-- the texts of a relation on tokens, with the nesting of each token in them
pub data Nested {A : Type 0} (T : List Token → A → Type 0) : List Spot → A → Type 0 where
  nested : {ts : List Token} {a : A} → T ts a → Nested T (spots ts) a

-- the language of expressions, and that of types
abbrev pub Expression : List Spot → Tree → Type 0
Expression = Nested Text

abbrev pub TypeExpression : List Spot → Ty → Type 0
TypeExpression = Nested TypeText

-- one token
pub data Key (k : Token) : List Spot → Unit {0} → Type 0 where
  the_key : Key k (lone k ∷ []) tt

module _ {A : Type 0} (G : List Spot → A → Type 0) where
  -- some text of G begins so
  pub record Begins (us : List Spot) : Type 0 where
    pub rest : List Spot
    pub value : A
    pub text : G (us ++ rest) value

  -- accepted: the tokens are a text of G, nowhere nested above the limit
  pub record Accepted (ts : List Token) (a : A) : Type 0 where
    pub read : List Spot
    pub tokens : tokens_of read ≡ ts
    pub shallow : All IsShallow read
    pub text : G read a

  -- refused at the i-th token, or behind them all where they end too early: those before it begin a text of G, nowhere nested above the limit, and no text of G begins with it too
  pub record SyntaxAt (ts : List Token) (i : ℕ) : Type 0 where
    pub read : List Spot
    pub tokens : tokens_of read ≡ take i ts
    pub shallow : All IsShallow read
    pub begins : Begins read
    pub none : ((i < length ts) × ((w : List Spot) (b : A) (zs : List Token) → G w b → tokens_of w ≡ take (suc i) ts ++ zs → ⊥)) ⊎ ((i ≡ length ts) × ((w : List Spot) (b : A) → G w b → tokens_of w ≡ ts → ⊥))

  -- refused for its depth at the i-th token: it is the first that is nested above the limit, in the texts of G that begin with it
  pub record TooNestedAt (ts : List Token) (i : ℕ) : Type 0 where
    pub read : List Spot
    pub last : Spot
    pub within : i < length ts
    pub tokens : tokens_of (read ++ last ∷ []) ≡ take (suc i) ts
    pub shallow : All IsShallow read
    pub deep : IsShallow last → ⊥
    pub begins : Begins (read ++ last ∷ [])
    pub only : (w : List Spot) (b : A) (zs : List Token) → G w b → tokens_of w ≡ take (suc i) ts ++ zs → (x : List Spot) × (w ≡ read ++ last ∷ x)
