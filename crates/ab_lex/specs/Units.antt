-- The units of a text: line comments, block comments, strings, and single bytes at which none of these begins.
-- `R s r` says that something stands at the front of the bytes s, and that r is what follows it.
use Rattle.std.specs.Prelude.{◌≡◌, ◌≢◌, ◌==◌, ◌||◌, ℕ, zero, suc, Bool, true, List, [], ◌∷◌, ◌++◌}

-- the bytes that units are made of: newline, `"`, `%`, `*`, `.` and `/`
abbrev pub newline : ℕ
newline = 10

abbrev pub quote : ℕ
quote = 34

abbrev pub percent : ℕ
percent = 37

abbrev pub star : ℕ
star = 42

abbrev pub full_stop : ℕ
full_stop = 46

abbrev pub slash : ℕ
slash = 47

-- space, tab, carriage return, line feed
abbrev pub is_blank : ℕ → Bool
is_blank b = (b == 32) || ((b == 9) || ((b == 13) || (b == newline)))

-- the two bytes `/*`, and `*/`
abbrev pub Opens : ℕ → ℕ → Type 0
Opens b c = (b ≡ slash) × (c ≡ star)

abbrev pub Closes : ℕ → ℕ → Type 0
Closes b c = (b ≡ star) × (c ≡ slash)

-- no block comment begins at b, which s follows
abbrev pub OpensNothing : ℕ → List ℕ → Type 0
OpensNothing b [] = Unit {0}
OpensNothing b (c ∷ s) = ¬ Opens b c

-- b and what follows it are neither `/*` nor `*/`
abbrev pub IsNoSign : ℕ → List ℕ → Type 0
IsNoSign b [] = Unit {0}
IsNoSign b (c ∷ s) = (¬ Opens b c) × (¬ Closes b c)

-- the rest of a line comment, with its newline where it has one
pub data LineEnds : List ℕ → List ℕ → Type 0 where
  at_end : LineEnds [] []
  at_newline : {b : ℕ} {s : List ℕ} → b ≡ newline → LineEnds (b ∷ s) s
  in_line : {b : ℕ} {s r : List ℕ} → b ≢ newline → LineEnds s r → LineEnds (b ∷ s) r

-- the rest of a string, with its closing quote
pub data StringEnds : List ℕ → List ℕ → Type 0 where
  at_quote : {b : ℕ} {s : List ℕ} → b ≡ quote → StringEnds (b ∷ s) s
  in_string : {b : ℕ} {s r : List ℕ} → b ≢ quote → StringEnds s r → StringEnds (b ∷ s) r

-- the rest of n block comments, one in another
pub data BlocksEnd : ℕ → List ℕ → List ℕ → Type 0 where
  outside : {s : List ℕ} → BlocksEnd zero s s
  opens : {n b c : ℕ} {s r : List ℕ} → Opens b c → BlocksEnd (suc (suc n)) s r → BlocksEnd (suc n) (b ∷ c ∷ s) r
  closes : {n b c : ℕ} {s r : List ℕ} → Closes b c → BlocksEnd n s r → BlocksEnd (suc n) (b ∷ c ∷ s) r
  in_block : {n b : ℕ} {s r : List ℕ} → IsNoSign b s → BlocksEnd (suc n) s r → BlocksEnd (suc n) (b ∷ s) r

pub data UnitAt : List ℕ → List ℕ → Type 0 where
  line : {b : ℕ} {s r : List ℕ} → b ≡ percent → LineEnds s r → UnitAt (b ∷ s) r
  block : {b c : ℕ} {s r : List ℕ} → Opens b c → BlocksEnd 1 s r → UnitAt (b ∷ c ∷ s) r
  string : {b : ℕ} {s r : List ℕ} → b ≡ quote → StringEnds s r → UnitAt (b ∷ s) r
  single : {b : ℕ} {s : List ℕ} → b ≢ percent → b ≢ quote → OpensNothing b s → UnitAt (b ∷ s) s

-- what separates tokens: a blank, or a whole comment
pub data GapAt : List ℕ → List ℕ → Type 0 where
  blank : {b : ℕ} {s : List ℕ} → is_blank b ≡ true → GapAt (b ∷ s) s
  line_comment : {b : ℕ} {s r : List ℕ} → b ≡ percent → LineEnds s r → GapAt (b ∷ s) r
  block_comment : {b c : ℕ} {s r : List ℕ} → Opens b c → BlocksEnd 1 s r → GapAt (b ∷ c ∷ s) r

-- nothing but blanks and whole comments
pub data IsBlank : List ℕ → Type 0 where
  empty : IsBlank []
  gap : {s r : List ℕ} → GapAt s r → IsBlank r → IsBlank s

-- the units of a text, in order, and what is left where a string or a block comment doesn't end
pub data Units : List ℕ → List (List ℕ) → List ℕ → Type 0 where
  no_unit : {s : List ℕ} → ((r : List ℕ) → ¬ UnitAt s r) → Units s [] s
  one_unit : {u s r left : List ℕ} {us : List (List ℕ)} → s ≡ u ++ r → UnitAt s r → Units r us left → Units s (u ∷ us) left

-- the text has a row of units
pub record UnitRow (text : List ℕ) : Type 0 where
  pub units : List (List ℕ)
  pub left : List ℕ
  pub row : Units text units left
