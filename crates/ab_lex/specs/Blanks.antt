-- Tokens as they are written, with blanks and comments between them.
use Rattle.std.specs.Prelude.{◌≡◌, List, ℕ, [], ◌∷◌, ◌++◌, map}
use Rattle.ab_lex.specs.declared.token.TokenKind.{TokenKind}
use Rattle.ab_lex.specs.declared.token.Token.{Token}
use Rattle.ab_lex.specs.Spans.{bytes_at}
use Rattle.ab_lex.specs.Units.{GapAt}
use Rattle.ab_lex.specs.Tokens.{HasForm, TokensOf}

-- a token without its place
pub record Lexeme : Type 0 where
  pub kind : TokenKind
  pub bytes : List ℕ

abbrev pub lexeme : TokenKind → List ℕ → Lexeme
lexeme kind c = record { kind = kind; bytes = c }

-- the tokens of a text, without their places
abbrev pub lexemes : List ℕ → List Token → List Lexeme
lexemes text ts = map (λ t. lexeme t.kind (bytes_at text t.span)) ts

-- the text is these tokens, with at least one blank or comment between each and the next
pub data Spaced : List Lexeme → List ℕ → Type 0 where
  empty : Spaced [] []
  gap : {ls : List Lexeme} {s r : List ℕ} → GapAt s r → Spaced ls r → Spaced ls s
  last : {kind : TokenKind} {c : List ℕ} → HasForm kind c → Spaced (lexeme kind c ∷ []) c
  next : {ls : List Lexeme} {kind : TokenKind} {c s r : List ℕ} → HasForm kind c → GapAt s r → Spaced ls s → Spaced (lexeme kind c ∷ ls) (c ++ s)

-- the text's tokens are these
pub record Spells (text : List ℕ) (ls : List Lexeme) : Type 0 where
  pub tokens : List Token
  pub reads : TokensOf text tokens
  pub same : lexemes text tokens ≡ ls
