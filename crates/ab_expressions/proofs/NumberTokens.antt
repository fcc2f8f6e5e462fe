-- What is a number to the grammar was read as one, and is short; what is a quoted text was read as one, and holds what it may.
use Rattle.std.proofs.Common.{◌≡◌, ℕ, ◌≤◌, Bool, true, false, List, length, Option, Some, None, refl}
use Rattle.std.specs.Prelude.{if◌then◌else◌}
use Rattle.std.specs.List.{list_all}
use Rattle.std.specs.Str.Parse.{digits_value}
use Rattle.std.proofs.Math.Dec.{leb}
use Rattle.std.proofs.lemmas.Bool.{leb-true}
use Rattle.ab_lex.specs.declared.token.TokenKind.{TokenKind}
use Rattle.ab_lex.specs.declared.token.TokenKind.TheVariants as lexed
use Rattle.ab_grammar.specs.Token.{Token, word, other, number, text, unusable}
use Rattle.ab_grammar.specs.CommandTable.{listed}
use Rattle.ab_expressions.specs.declared.kind.Kind.TheVariants as kind
use Rattle.ab_expressions.specs.Tokens.{reserved, signs, otherwise, plainly, is_text_byte, unquoted, token_by}
use Rattle.ab_expressions.specs.Kinds.{kind_of}
use Rattle.ab_expressions.proofs.Tables.{EachRow, listed_each}

abbrev NoNumber : Token → Type 0
NoNumber k = kind_of k ≡ kind.Number → ⊥

abbrev NeverNumber : (List ℕ → ℕ → Token) → Type 0
NeverNumber f = (w : List ℕ) (p : ℕ) → NoNumber (f w p)

reserved_no_number : EachRow NeverNumber reserved
reserved_no_number = (λ w p e. absurd (cc), (λ w p e. absurd (cc), (λ w p e. absurd (cc), (λ w p e. absurd (cc), (λ w p e. absurd (cc), (λ w p e. absurd (cc), (λ w p e. absurd (cc), (λ w p e. absurd (cc), (λ w p e. absurd (cc), (λ w p e. absurd (cc), (λ w p e. absurd (cc), tt)))))))))))

signs_no_number : EachRow NeverNumber signs
signs_no_number = (λ w p e. absurd (cc), (λ w p e. absurd (cc), (λ w p e. absurd (cc), (λ w p e. absurd (cc), (λ w p e. absurd (cc), (λ w p e. absurd (cc), (λ w p e. absurd (cc), (λ w p e. absurd (cc), (λ w p e. absurd (cc), (λ w p e. absurd (cc), (λ w p e. absurd (cc), (λ w p e. absurd (cc), (λ w p e. absurd (cc), (λ w p e. absurd (cc), (λ w p e. absurd (cc), (λ w p e. absurd (cc), (λ w p e. absurd (cc), (λ w p e. absurd (cc), (λ w p e. absurd (cc), (λ w p e. absurd (cc), (λ w p e. absurd (cc), (λ w p e. absurd (cc), (λ w p e. absurd (cc), (λ w p e. absurd (cc), tt))))))))))))))))))))))))

word_no_number : (x : List ℕ) (p : ℕ) → NoNumber (token_by lexed.Word x p)
word_no_number x p = by_row (listed reserved x) refl
  where
    by_row : (o : Option (List ℕ → ℕ → Token)) → listed reserved x ≡ o → NoNumber (otherwise o word x p)
    by_row None e f = absurd (cc)
    by_row (Some g) e f = listed_each NeverNumber reserved x g reserved_no_number e x p f

sign_no_number : (x : List ℕ) (p : ℕ) → NoNumber (token_by lexed.Sign x p)
sign_no_number x p = by_row (listed signs x) refl
  where
    by_row : (o : Option (List ℕ → ℕ → Token)) → listed signs x ≡ o → NoNumber (otherwise o (plainly (other unusable)) x p)
    by_row None e f = absurd (cc)
    by_row (Some g) e f = listed_each NeverNumber signs x g signs_no_number e x p f

text_no_number : (x : List ℕ) (p : ℕ) → NoNumber (token_by lexed.Text x p)
text_no_number x p = by_bytes (list_all is_text_byte (unquoted x))
  where
    by_bytes : (b : Bool) → NoNumber (if b then other (text (unquoted x)) else other unusable)
    by_bytes true e = absurd (cc)
    by_bytes false e = absurd (cc)

short : (x : List ℕ) (p : ℕ) → kind_of (token_by lexed.Number x p) ≡ kind.Number → length x ≤ 9
short x p = by_length (leb (length x) 9) refl
  where
    by_length : (b : Bool) → leb (length x) 9 ≡ b → kind_of (if b then other (number (digits_value 10 x)) else other unusable) ≡ kind.Number → length x ≤ 9
    by_length true e f = leb-true (length x) 9 e
    by_length false e f = absurd (cc)

pub number_alone : (j : TokenKind) (x : List ℕ) (p : ℕ) → kind_of (token_by j x p) ≡ kind.Number → (j ≡ lexed.Number) × (length x ≤ 9)
number_alone lexed.Word x p h = absurd (word_no_number x p h)
number_alone lexed.Number x p h = (refl, short x p h)
number_alone lexed.Text x p h = absurd (text_no_number x p h)
number_alone lexed.Sign x p h = absurd (sign_no_number x p h)

abbrev NoText : Token → Type 0
NoText k = kind_of k ≡ kind.Text → ⊥

abbrev NeverText : (List ℕ → ℕ → Token) → Type 0
NeverText f = (w : List ℕ) (p : ℕ) → NoText (f w p)

reserved_no_text : EachRow NeverText reserved
reserved_no_text = (λ w p e. absurd (cc), (λ w p e. absurd (cc), (λ w p e. absurd (cc), (λ w p e. absurd (cc), (λ w p e. absurd (cc), (λ w p e. absurd (cc), (λ w p e. absurd (cc), (λ w p e. absurd (cc), (λ w p e. absurd (cc), (λ w p e. absurd (cc), (λ w p e. absurd (cc), tt)))))))))))

signs_no_text : EachRow NeverText signs
signs_no_text = (λ w p e. absurd (cc), (λ w p e. absurd (cc), (λ w p e. absurd (cc), (λ w p e. absurd (cc), (λ w p e. absurd (cc), (λ w p e. absurd (cc), (λ w p e. absurd (cc), (λ w p e. absurd (cc), (λ w p e. absurd (cc), (λ w p e. absurd (cc), (λ w p e. absurd (cc), (λ w p e. absurd (cc), (λ w p e. absurd (cc), (λ w p e. absurd (cc), (λ w p e. absurd (cc), (λ w p e. absurd (cc), (λ w p e. absurd (cc), (λ w p e. absurd (cc), (λ w p e. absurd (cc), (λ w p e. absurd (cc), (λ w p e. absurd (cc), (λ w p e. absurd (cc), (λ w p e. absurd (cc), (λ w p e. absurd (cc), tt))))))))))))))))))))))))

word_no_text : (x : List ℕ) (p : ℕ) → NoText (token_by lexed.Word x p)
word_no_text x p = by_row (listed reserved x) refl
  where
    by_row : (o : Option (List ℕ → ℕ → Token)) → listed reserved x ≡ o → NoText (otherwise o word x p)
    by_row None e f = absurd (cc)
    by_row (Some g) e f = listed_each NeverText reserved x g reserved_no_text e x p f

sign_no_text : (x : List ℕ) (p : ℕ) → NoText (token_by lexed.Sign x p)
sign_no_text x p = by_row (listed signs x) refl
  where
    by_row : (o : Option (List ℕ → ℕ → Token)) → listed signs x ≡ o → NoText (otherwise o (plainly (other unusable)) x p)
    by_row None e f = absurd (cc)
    by_row (Some g) e f = listed_each NeverText signs x g signs_no_text e x p f

number_no_text : (x : List ℕ) (p : ℕ) → NoText (token_by lexed.Number x p)
number_no_text x p = by_length (leb (length x) 9)
  where
    by_length : (b : Bool) → NoText (if b then other (number (digits_value 10 x)) else other unusable)
    by_length true e = absurd (cc)
    by_length false e = absurd (cc)

plain_inside : (x : List ℕ) (p : ℕ) → kind_of (token_by lexed.Text x p) ≡ kind.Text → list_all is_text_byte (unquoted x) ≡ true
plain_inside x p = by_bytes (list_all is_text_byte (unquoted x))
  where
    by_bytes : (b : Bool) → kind_of (if b then other (text (unquoted x)) else other unusable) ≡ kind.Text → b ≡ true
    by_bytes true f = refl
    by_bytes false f = absurd (cc)

pub text_alone : (j : TokenKind) (x : List ℕ) (p : ℕ) → kind_of (token_by j x p) ≡ kind.Text → (j ≡ lexed.Text) × (list_all is_text_byte (unquoted x) ≡ true)
text_alone lexed.Word x p h = absurd (word_no_text x p h)
text_alone lexed.Number x p h = absurd (number_no_text x p h)
text_alone lexed.Text x p h = (refl, plain_inside x p h)
text_alone lexed.Sign x p h = absurd (sign_no_text x p h)
