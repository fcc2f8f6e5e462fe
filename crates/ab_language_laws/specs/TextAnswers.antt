-- The three answers that tokens have, as a text of a language.
use Rattle.std.specs.Prelude.{ℕ, List}
use Rattle.ab_grammar.specs.Token.{Token}
use Rattle.ab_grammar.specs.Nesting.{Spot}
use Rattle.ab_grammar.specs.Language.{Accepted, SyntaxAt, TooNestedAt}

-- they are a text, nowhere nested above the limit; or refused for their form at a token; or for their depth at one
pub data HasAnswer {A : Type 0} (G : List Spot → A → Type 0) (ts : List Token) : Type 0 where
  accepted : {a : A} → Accepted G ts a → HasAnswer G ts
  refused : {i : ℕ} → SyntaxAt G ts i → HasAnswer G ts
  too_nested : {i : ℕ} → TooNestedAt G ts i → HasAnswer G ts
