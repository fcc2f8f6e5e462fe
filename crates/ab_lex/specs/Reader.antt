-- The token reader's own description: a tool of `tokens` and of the proofs, not what a token is, which `Tokens` says.
use Rattle.std.specs.Prelude.{◌≡◌, ◌≢◌, ◌<◌, ◌≤◌, ◌==◌, ◌&&◌, ◌||◌, ℕ, suc, Bool, false, not, if◌then◌else◌, nat_eq, List, [], ◌∷◌, length, take, drop, codes}
use Rattle.std.specs.List.{list_any, starts_with}
use Rattle.std.specs.Char.{is_ascii_alphanumeric}
use Rattle.ab_lex.specs.declared.token.LexFault.TheVariants as fault
use Rattle.ab_lex.specs.declared.tokenizer.Piece.{Piece}
use Rattle.ab_lex.specs.declared.tokenizer.Piece.TheVariants.{Gap, Token, BadByte, OpenString, OpenComment}
use Rattle.ab_lex.specs.Units.{is_blank, percent, quote, slash, star, GapAt}
use Rattle.ab_lex.specs.Tokens.{hyphen, is_word_byte, TokenAt, FaultAt}

abbrev pub begins_alphanumeric : List ℕ → Bool
begins_alphanumeric [] = false
begins_alphanumeric (b ∷ s) = is_ascii_alphanumeric b

abbrev pub begins_star : List ℕ → Bool
begins_star [] = false
begins_star (b ∷ s) = b == star

-- how many bytes at the front go on with a word
abbrev pub tail_size : List ℕ → ℕ
tail_size [] = 0
tail_size (b ∷ s) = if is_word_byte b || ((b == hyphen) && begins_alphanumeric s) then suc (tail_size s) else 0

-- the signs of one byte, and of two
abbrev pub singles : List ℕ
singles = codes "(){}[],;:=\\&*."

abbrev pub is_single : ℕ → Bool
is_single b = list_any (λ x. b == x) singles

abbrev pub is_pair : ℕ → ℕ → Bool
is_pair b c =
    ((b == 58) && ((c == 61) || ((c == 45) || (c == 58)))) || (((b == 45) && (c == 62)) || (((b == 61) && (c == 62))
    || (((b == 47) && (c == 92)) || (((b == 92) && (c == 47)) || ((b == 124) && (c == 45))))))

abbrev pub single_size : ℕ → ℕ
single_size b = if is_single b then 1 else 0

-- how many bytes the sign of one byte or two has that begins with b; none is 0
abbrev pub short_size : ℕ → List ℕ → ℕ
short_size b [] = single_size b
short_size b (c ∷ s) = if is_pair b c && not ((c == slash) && begins_star s) then 2 else single_size b

-- how many bytes the longest sign has that begins with b; none is 0
abbrev pub sign_size : ℕ → List ℕ → ℕ
sign_size b s =
    if (b == 35) && starts_with nat_eq s (codes "reset") then 6
    else if (b == 35) && starts_with nat_eq s (codes "back") then 5
    else short_size b s

-- a block comment begins at b, which s follows
abbrev pub opens_at : ℕ → List ℕ → Bool
opens_at b s = (b == slash) && begins_star s

-- neither a blank nor a comment nor a string begins at b, which s follows
pub record IsPlainByte (b : ℕ) (s : List ℕ) : Type 0 where
  pub no_blank : is_blank b ≡ false
  pub no_line : b ≢ percent
  pub no_string : b ≢ quote
  pub no_block : opens_at b s ≡ false

-- what stands at the front of the bytes s
abbrev pub StandsAt : List ℕ → Piece → Type 0
StandsAt s (Gap size) = (0 < size) × (size ≤ length s) × GapAt s (drop size s)
StandsAt s (Token kind size) = (0 < size) × (size ≤ length s) × TokenAt kind (take size s) (drop size s)
StandsAt s BadByte = (place : ℕ) → FaultAt place s (fault.BadByte place)
StandsAt s OpenString = (place : ℕ) → FaultAt place s (fault.OpenString place)
StandsAt s OpenComment = (place : ℕ) → FaultAt place s (fault.OpenComment place)
