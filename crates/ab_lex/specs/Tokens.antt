-- The tokens of a text, and what is wrong with a text that has none. A text is a row of blanks, comments and
-- tokens; the token at a place is the longest that stands there.
use Rattle.std.specs.Prelude.{◌≡◌, ◌≢◌, ◌==◌, ◌||◌, ◌<◌, ◌≤◌, ◌+◌, ◌⊎◌, ℕ, Bool, true, false, List, [], ◌∷◌, ◌++◌, length, codes, Contains}
use Rattle.std.specs.Char.{is_ascii_alphabetic, is_ascii_alphanumeric, is_ascii_digit}
use Rattle.ab_lex.specs.declared.token.TokenKind.{TokenKind}
use Rattle.ab_lex.specs.declared.token.TokenKind.TheVariants.{Word, Number, Text, Sign}
use Rattle.ab_lex.specs.declared.token.Token.{Token}
use Rattle.ab_lex.specs.declared.token.LexFault.{LexFault}
use Rattle.ab_lex.specs.declared.token.LexFault.TheVariants.{BadByte, OpenString, OpenComment, Memory}
use Rattle.ab_lex.specs.Spans.{bytes_at}
use Rattle.ab_lex.specs.Units.{is_blank, quote, percent, Opens, OpensNothing, StringEnds, BlocksEnd, GapAt}

-- the bytes `'`, `-` and `_`
abbrev pub apostrophe : ℕ
apostrophe = 39

abbrev pub hyphen : ℕ
hyphen = 45

abbrev pub underscore : ℕ
underscore = 95

-- a letter, a digit, `_` or `'`
abbrev pub is_word_byte : ℕ → Bool
is_word_byte b = is_ascii_alphanumeric b || ((b == underscore) || (b == apostrophe))

-- what may follow the first letter of a word: such bytes, and hyphens where a letter or a digit follows
pub data IsWordTail : List ℕ → Type 0 where
  ends : IsWordTail []
  byte : {b : ℕ} {w : List ℕ} → is_word_byte b ≡ true → IsWordTail w → IsWordTail (b ∷ w)
  joined : {b c : ℕ} {w : List ℕ} → b ≡ hyphen → is_ascii_alphanumeric c ≡ true → IsWordTail (c ∷ w) → IsWordTail (b ∷ c ∷ w)

pub data IsWord : List ℕ → Type 0 where
  alone : {b : ℕ} → b ≡ underscore → IsWord (b ∷ [])
  letters : {b : ℕ} {w : List ℕ} → is_ascii_alphabetic b ≡ true → IsWordTail w → IsWord (b ∷ w)

pub data IsNumber : List ℕ → Type 0 where
  last_digit : {b : ℕ} → is_ascii_digit b ≡ true → IsNumber (b ∷ [])
  digit : {b : ℕ} {w : List ℕ} → is_ascii_digit b ≡ true → IsNumber w → IsNumber (b ∷ w)

-- a quote, and the rest of a string up to its end
abbrev pub IsString : List ℕ → Type 0
IsString [] = ⊥
IsString (b ∷ w) = (b ≡ quote) × StringEnds w []

abbrev pub signs : List (List ℕ)
signs =
    codes "#reset" ∷ codes "#back"
    ∷ codes ":=" ∷ codes ":-" ∷ codes "::" ∷ codes "->" ∷ codes "=>" ∷ codes "/\\" ∷ codes "\\/" ∷ codes "|-"
    ∷ codes "(" ∷ codes ")" ∷ codes "{" ∷ codes "}" ∷ codes "[" ∷ codes "]"
    ∷ codes "," ∷ codes ";" ∷ codes ":" ∷ codes "=" ∷ codes "\\" ∷ codes "&" ∷ codes "*" ∷ codes "." ∷ []

-- no block comment begins at a byte of c, which r follows
abbrev pub OpensNowhere : List ℕ → List ℕ → Type 0
OpensNowhere [] r = Unit {0}
OpensNowhere (b ∷ c) r = OpensNothing b (c ++ r) × OpensNowhere c r

-- the bytes c have the form of their kind
abbrev pub HasForm : TokenKind → List ℕ → Type 0
HasForm Word c = IsWord c
HasForm Number c = IsNumber c
HasForm Text c = IsString c
HasForm Sign c = Contains signs c

-- the bytes c, which r follows, can be a token: a comment that begins inside a sign takes its bytes away
abbrev pub IsToken : TokenKind → List ℕ → List ℕ → Type 0
IsToken Word c r = IsWord c
IsToken Number c r = IsNumber c
IsToken Text c r = IsString c
IsToken Sign c r = Contains signs c × OpensNowhere c r

-- the bytes c, which r follows, are the token at their place
pub record TokenAt (kind : TokenKind) (c r : List ℕ) : Type 0 where
  pub form : IsToken kind c r
  pub longest : (other : TokenKind) (d q : List ℕ) → d ++ q ≡ c ++ r → IsToken other d q → length d ≤ length c

abbrev pub token_at : TokenKind → ℕ → ℕ → Token
token_at kind start size = record { kind = kind; span = record { start = start; end = start + size } }

-- the tokens of the bytes s, the first of which is at this place
pub data TokensFrom : ℕ → List ℕ → List Token → Type 0 where
  no_more : {place : ℕ} → TokensFrom place [] []
  gap : {place : ℕ} {s r : List ℕ} {ts : List Token} (c : List ℕ) → s ≡ c ++ r → GapAt s r → TokensFrom (place + length c) r ts → TokensFrom place s ts
  token : {place : ℕ} {kind : TokenKind} {c s r : List ℕ} {ts : List Token} → s ≡ c ++ r → TokenAt kind c r
      → TokensFrom (place + length c) r ts → TokensFrom place s (token_at kind place (length c) ∷ ts)

-- at this place stands a byte that begins nothing, or a string or a block comment that doesn't end
pub data FaultAt : ℕ → List ℕ → LexFault → Type 0 where
  bad_byte : {place b : ℕ} {s : List ℕ} → is_blank b ≡ false → b ≢ percent → b ≢ quote → OpensNothing b s
      → ((kind : TokenKind) (c r : List ℕ) → b ∷ s ≡ c ++ r → ¬ IsToken kind c r) → FaultAt place (b ∷ s) (BadByte place)
  open_string : {place b : ℕ} {s : List ℕ} → b ≡ quote → ((r : List ℕ) → ¬ StringEnds s r) → FaultAt place (b ∷ s) (OpenString place)
  open_comment : {place b c : ℕ} {s : List ℕ} → Opens b c → ((r : List ℕ) → ¬ BlocksEnd 1 s r) → FaultAt place (b ∷ c ∷ s) (OpenComment place)

-- behind blanks, comments and tokens there is a fault
pub data FaultFrom : ℕ → List ℕ → LexFault → Type 0 where
  here : {place : ℕ} {s : List ℕ} {fault : LexFault} → FaultAt place s fault → FaultFrom place s fault
  gap_before : {place : ℕ} {s r : List ℕ} {fault : LexFault} (c : List ℕ) → s ≡ c ++ r → GapAt s r → FaultFrom (place + length c) r fault → FaultFrom place s fault
  token_before : {place : ℕ} {kind : TokenKind} {c s r : List ℕ} {fault : LexFault} → s ≡ c ++ r → TokenAt kind c r
      → FaultFrom (place + length c) r fault → FaultFrom place s fault

-- behind blanks and whole comments something else stands at the second place, or the bytes s, which begin at the first, end there
pub data BeginsFrom : ℕ → List ℕ → ℕ → Type 0 where
  begins : {place : ℕ} {s : List ℕ} → ((r : List ℕ) → ¬ GapAt s r) → BeginsFrom place s place
  gap_first : {place start : ℕ} {s r : List ℕ} (c : List ℕ) → s ≡ c ++ r → GapAt s r → BeginsFrom (place + length c) r start → BeginsFrom place s start

abbrev pub TokensOf : List ℕ → List Token → Type 0
TokensOf text ts = TokensFrom 0 text ts

abbrev pub FaultOf : List ℕ → LexFault → Type 0
FaultOf text fault = FaultFrom 0 text fault

-- at this place a text begins, behind its first blanks and comments
abbrev pub BeginsAt : List ℕ → ℕ → Type 0
BeginsAt text start = BeginsFrom 0 text start

-- the text has tokens or a fault
abbrev pub HasReading : List ℕ → Type 0
HasReading text = ((ts : List Token) × TokensOf text ts) ⊎ ((fault : LexFault) × FaultOf text fault)

-- where a fault stands
abbrev pub place_of : LexFault → ℕ
place_of (BadByte place) = place
place_of (OpenString place) = place
place_of (OpenComment place) = place
place_of (Memory e) = 0

-- the fault is in the text; want of memory says nothing of it
abbrev pub Explains : List ℕ → LexFault → Type 0
Explains text (BadByte place) = FaultOf text (BadByte place)
Explains text (OpenString place) = FaultOf text (OpenString place)
Explains text (OpenComment place) = FaultOf text (OpenComment place)
Explains text (Memory e) = Unit {0}

-- the token stands in the text, and its bytes have the form of its kind
pub record StandsIn (text : List ℕ) (t : Token) : Type 0 where
  pub some : t.span.start < t.span.end
  pub within : t.span.end ≤ length text
  pub form : HasForm t.kind (bytes_at text t.span)

-- the token begins at the end of the other or behind it
abbrev pub Follows : Token → Token → Type 0
Follows t u = t.span.end ≤ u.span.start
