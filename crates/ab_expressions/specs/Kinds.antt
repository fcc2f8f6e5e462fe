-- The kinds of tokens that the reader tells apart, and the tokens that they are. No public contract speaks of it.
use Rattle.std.specs.Prelude.{◌≡◌, ℕ, List, []}
use Rattle.std.specs.Str.Parse.{digits_value}
use Rattle.ab_grammar.specs.Token.{Token, word, truth, quantifier, pi_word, sign, left_paren, right_paren, left_brace, right_brace, left_bracket, right_bracket, turnstile, backslash, comma, colon, other, Other, stop, semicolon, becomes, from, star, back, reset, by_word, to_word, with_word, on_word, type_word, number, text, unusable}
use Rattle.ab_grammar.specs.declared.Infix.{Infix}
use Rattle.ab_grammar.specs.declared.Infix.TheVariants as signs_of
use Rattle.ab_grammar.specs.declared.Quant.{Quant}
use Rattle.ab_grammar.specs.declared.Quant.TheVariants as quant
use Rattle.ab_expressions.specs.declared.kind.Kind.{Kind}
use Rattle.ab_expressions.specs.declared.kind.Kind.TheVariants as kind
use Rattle.ab_expressions.specs.Tokens.{unquoted}

abbrev pub kind_of_other : Other → Kind
kind_of_other stop = kind.Stop
kind_of_other semicolon = kind.Semicolon
kind_of_other becomes = kind.Becomes
kind_of_other from = kind.From
kind_of_other star = kind.Star
kind_of_other back = kind.Back
kind_of_other reset = kind.Reset
kind_of_other by_word = kind.By
kind_of_other to_word = kind.To
kind_of_other with_word = kind.With
kind_of_other on_word = kind.On
kind_of_other type_word = kind.Type
kind_of_other (number n) = kind.Number
kind_of_other (text t) = kind.Text
kind_of_other unusable = kind.Unusable

abbrev pub kind_of_sign : Infix → Kind
kind_of_sign signs_of.Arrow = kind.Arrow
kind_of_sign signs_of.Or = kind.Or
kind_of_sign signs_of.And = kind.And
kind_of_sign signs_of.Equal = kind.Equal
kind_of_sign signs_of.Imply = kind.Imply
kind_of_sign signs_of.With = kind.Both
kind_of_sign signs_of.Cons = kind.Cons

abbrev pub kind_of_quantifier : Quant → Kind
kind_of_quantifier quant.Forall = kind.Forall
kind_of_quantifier quant.Exists = kind.Exists
kind_of_quantifier quant.Nabla = kind.Nabla

abbrev pub kind_of : Token → Kind
kind_of (word x p) = kind.Word
kind_of (truth x p) = kind.Truth
kind_of (quantifier q p) = kind_of_quantifier q
kind_of (pi_word p) = kind.Pi
kind_of (sign o) = kind_of_sign o
kind_of (left_brace p) = kind.LeftBrace
kind_of left_paren = kind.LeftParen
kind_of right_paren = kind.RightParen
kind_of right_brace = kind.RightBrace
kind_of left_bracket = kind.LeftBracket
kind_of right_bracket = kind.RightBracket
kind_of turnstile = kind.Turnstile
kind_of backslash = kind.Backslash
kind_of comma = kind.Comma
kind_of colon = kind.Colon
kind_of (other o) = kind_of_other o

-- the token of a kind, by its bytes and its place
abbrev pub meaning : Kind → List ℕ → ℕ → Token
meaning kind.Word w p = word w p
meaning kind.Truth w p = truth w p
meaning kind.Forall w p = quantifier quant.Forall p
meaning kind.Exists w p = quantifier quant.Exists p
meaning kind.Nabla w p = quantifier quant.Nabla p
meaning kind.Pi w p = pi_word p
meaning kind.Arrow w p = sign signs_of.Arrow
meaning kind.Or w p = sign signs_of.Or
meaning kind.And w p = sign signs_of.And
meaning kind.Equal w p = sign signs_of.Equal
meaning kind.Imply w p = sign signs_of.Imply
meaning kind.Both w p = sign signs_of.With
meaning kind.Cons w p = sign signs_of.Cons
meaning kind.LeftBrace w p = left_brace p
meaning kind.LeftParen w p = left_paren
meaning kind.RightParen w p = right_paren
meaning kind.RightBrace w p = right_brace
meaning kind.LeftBracket w p = left_bracket
meaning kind.RightBracket w p = right_bracket
meaning kind.Turnstile w p = turnstile
meaning kind.Backslash w p = backslash
meaning kind.Comma w p = comma
meaning kind.Colon w p = colon
meaning kind.Stop w p = other stop
meaning kind.Semicolon w p = other semicolon
meaning kind.Becomes w p = other becomes
meaning kind.From w p = other from
meaning kind.Star w p = other star
meaning kind.Back w p = other back
meaning kind.Reset w p = other reset
meaning kind.By w p = other by_word
meaning kind.To w p = other to_word
meaning kind.With w p = other with_word
meaning kind.On w p = other on_word
meaning kind.Type w p = other type_word
meaning kind.Number w p = other (number (digits_value 10 w))
meaning kind.Text w p = other (text (unquoted w))
meaning kind.Unusable w p = other unusable

-- the token of a kind that is known by its kind alone
abbrev pub key_of : Kind → Token
key_of k = meaning k [] 0

abbrev pub IsKey : Kind → Type 0
IsKey k = (w : List ℕ) (p : ℕ) → meaning k w p ≡ key_of k

-- a word, or the words true and false
abbrev pub IsWordKind : Kind → Type 0
IsWordKind kind.Word = Unit {0}
IsWordKind kind.Truth = Unit {0}
IsWordKind k = ⊥
