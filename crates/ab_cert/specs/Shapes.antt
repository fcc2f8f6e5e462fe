-- How far a name has come, byte by byte: a tool of the reader.
use Rattle.std.specs.Prelude.{◌≡◌, ◌==◌, ◌≤◌, ◌-◌, ℕ, length, take, drop, Bool, true, false, if◌then◌else◌, List, [], ◌∷◌, Option, Some, None}
use Rattle.std.specs.Char.{is_ascii_alphabetic, is_ascii_alphanumeric, is_ascii_digit}
use Rattle.ab_lex.specs.Tokens.{is_word_byte}
use Rattle.ab_cert.specs.declared.shape.Shape.{Shape}
use Rattle.ab_cert.specs.declared.shape.Shape.TheVariants.{Start, Underscore, Digits, Letters, Hyphen, Colon, Colons}

-- behind one more byte, if a name may go on so
abbrev pub next_of : Shape → ℕ → Option Shape
next_of Start b = if is_ascii_alphabetic b then Some Letters else if b == 95 then Some Underscore else if b == 58 then Some Colon else None
next_of Underscore b = if is_ascii_digit b then Some Digits else None
next_of Digits b = if is_ascii_digit b then Some Digits else None
next_of Letters b = if is_word_byte b then Some Letters else if b == 45 then Some Hyphen else None
next_of Hyphen b = if is_ascii_alphanumeric b then Some Letters else None
next_of Colon b = if b == 58 then Some Colons else None
next_of Colons b = None

-- a name may end here
abbrev pub ends_of : Shape → Bool
ends_of Start = false
ends_of Underscore = true
ends_of Digits = true
ends_of Letters = true
ends_of Hyphen = false
ends_of Colon = false
ends_of Colons = true

-- behind some bytes
abbrev pub run : Option Shape → List ℕ → Option Shape
run o [] = o
run None (b ∷ x) = None
run (Some s) (b ∷ x) = run (next_of s b) x

abbrev pub ends_at : Option Shape → Bool
ends_at None = false
ends_at (Some s) = ends_of s

-- no name that has come so far goes on by the next byte
abbrev pub IsBlocked : Shape → List ℕ → Type 0
IsBlocked s [] = Unit {0}
IsBlocked s (b ∷ back) = next_of s b ≡ None

-- the bytes from one place to another are the front of a name that has come so far, and the next byte is none of it
pub record IsNameScan (bytes : List ℕ) (start to : ℕ) (shape : Shape) : Type 0 where
  pub onward : start ≤ to
  pub within : to ≤ length bytes
  pub came : run (Some Start) (take (to - start) (drop start bytes)) ≡ Some shape
  pub blocked : IsBlocked shape (drop to bytes)
