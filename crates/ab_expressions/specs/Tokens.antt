-- The tokens of the grammar that a text's tokens are: reserved words and signs by two tables, numbers and quoted texts by their bytes.
use Rattle.std.specs.Prelude.{◌≡◌, ◌<◌, ◌≤◌, ℕ, ◌-◌, ◌==◌, ◌||◌, Bool, true, All, List, [], ◌∷◌, Option, Some, None, length, map, slice_range, codes, if◌then◌else◌}
use Rattle.std.specs.List.{list_all}
use Rattle.std.specs.Char.{is_ascii_alphanumeric, is_ascii_digit}
use Rattle.std.specs.Str.Parse.{digits_value}
use Rattle.std.proofs.Math.Dec.{leb}
use Rattle.ab_lex.specs.declared.token.Token.{Token as Lexed}
use Rattle.ab_lex.specs.declared.token.TokenKind.{TokenKind}
use Rattle.ab_lex.specs.declared.token.TokenKind.TheVariants.{Word, Number, Text, Sign}
use Rattle.ab_lex.specs.Spans.{IsWithin, bytes_at}
use Rattle.ab_grammar.specs.declared.Infix.TheVariants.{Arrow, Or, And, Equal, Imply, With, Cons}
use Rattle.ab_grammar.specs.declared.Quant.TheVariants.{Forall, Exists, Nabla}
use Rattle.ab_grammar.specs.Token.{Token, word, truth, quantifier, pi_word, sign, left_paren, right_paren, left_brace, right_brace, left_bracket, right_bracket, turnstile, backslash, comma, colon, other, stop, semicolon, becomes, from, star, back, reset, by_word, to_word, with_word, on_word, type_word, number, text, unusable}
use Rattle.ab_grammar.specs.CommandTable.{listed}

-- a row of a table: what is written, and its token, by what is written and its place
abbrev pub Row : Type 0
Row = List ℕ × (List ℕ → ℕ → Token)

abbrev pub plainly : Token → List ℕ → ℕ → Token
plainly k w p = k

-- the reserved words
abbrev pub reserved : List Row
reserved =
    (codes "forall", λ w p. quantifier Forall p) ∷ (codes "exists", λ w p. quantifier Exists p) ∷ (codes "nabla", λ w p. quantifier Nabla p)
    ∷ (codes "true", λ w p. truth w p) ∷ (codes "false", λ w p. truth w p) ∷ (codes "pi", λ w p. pi_word p)
    ∷ (codes "by", plainly (other by_word)) ∷ (codes "to", plainly (other to_word)) ∷ (codes "with", plainly (other with_word))
    ∷ (codes "on", plainly (other on_word)) ∷ (codes "type", plainly (other type_word)) ∷ []

abbrev pub signs : List Row
signs =
    (codes "->", plainly (sign Arrow)) ∷ (codes "\\/", plainly (sign Or)) ∷ (codes "/\\", plainly (sign And)) ∷ (codes "=", plainly (sign Equal))
    ∷ (codes "=>", plainly (sign Imply)) ∷ (codes "&", plainly (sign With)) ∷ (codes "::", plainly (sign Cons))
    ∷ (codes "(", plainly left_paren) ∷ (codes ")", plainly right_paren) ∷ (codes "{", λ w p. left_brace p) ∷ (codes "}", plainly right_brace)
    ∷ (codes "[", plainly left_bracket) ∷ (codes "]", plainly right_bracket) ∷ (codes "|-", plainly turnstile) ∷ (codes "\\", plainly backslash)
    ∷ (codes ",", plainly comma) ∷ (codes ":", plainly colon) ∷ (codes ".", plainly (other stop)) ∷ (codes ";", plainly (other semicolon))
    ∷ (codes ":=", plainly (other becomes)) ∷ (codes ":-", plainly (other from)) ∷ (codes "*", plainly (other star))
    ∷ (codes "#back", plainly (other back)) ∷ (codes "#reset", plainly (other reset)) ∷ []

-- what a table has, or else this
abbrev pub otherwise : Option (List ℕ → ℕ → Token) → (List ℕ → ℕ → Token) → List ℕ → ℕ → Token
otherwise None f = f
otherwise (Some g) f = g

-- a number of more than nine digits is in no form
abbrev pub number_token : List ℕ → Token
number_token ds = if leb (length ds) 9 then other (number (digits_value 10 ds)) else other unusable

-- a letter, a digit, `_`, `-`, `.` or `/`
abbrev pub is_text_byte : ℕ → Bool
is_text_byte b = is_ascii_alphanumeric b || ((b == 95) || ((b == 45) || ((b == 46) || (b == 47))))

abbrev pub unquoted : List ℕ → List ℕ
unquoted t = slice_range t 1 (length t - 1)

-- a quoted text holds such bytes alone, or is in no form
abbrev pub text_token : List ℕ → Token
text_token t = if list_all is_text_byte (unquoted t) then other (text (unquoted t)) else other unusable

-- by the kind of a token, its bytes and its place
abbrev pub token_by : TokenKind → List ℕ → ℕ → Token
token_by Word w p = otherwise (listed reserved w) word w p
token_by Number ds p = number_token ds
token_by Text t p = text_token t
token_by Sign w p = otherwise (listed signs w) (plainly (other unusable)) w p

-- a place is a number of bytes from the origin
abbrev pub token_of : List ℕ → ℕ → Lexed → Token
token_of bytes origin t = token_by t.kind (bytes_at bytes t.span) (t.span.start - origin)

-- where the first token begins
abbrev pub origin_of : List Lexed → ℕ
origin_of [] = 0
origin_of (t ∷ ts) = t.span.start

-- a token that stands in the bytes, not before the origin; a word is ASCII, a number is made of digits, and a quoted text has its two quotes
pub record IsTokenOf (bytes : List ℕ) (origin : ℕ) (token : Lexed) : Type 0 where
  pub within : IsWithin (length bytes) token.span
  pub from_origin : origin ≤ token.span.start
  pub plain_word : token.kind ≡ Word → All (λ b. b < 128) (bytes_at bytes token.span)
  pub digits : token.kind ≡ Number → list_all is_ascii_digit (bytes_at bytes token.span) ≡ true
  pub quoted : token.kind ≡ Text → 2 ≤ length (bytes_at bytes token.span)

-- tokens that stand in the bytes, as all of them or a slice of them do
abbrev pub StandIn : List ℕ → ℕ → List Lexed → Type 0
StandIn bytes origin ts = All (IsTokenOf bytes origin) ts

-- the tokens, with their places counted from the origin
abbrev pub tokens_from : List ℕ → ℕ → List Lexed → List Token
tokens_from bytes origin ts = map (token_of bytes origin) ts

-- the tokens of a text, with their places counted from the first byte of the first
abbrev pub tokens_in : List ℕ → List Lexed → List Token
tokens_in bytes ts = tokens_from bytes (origin_of ts) ts
