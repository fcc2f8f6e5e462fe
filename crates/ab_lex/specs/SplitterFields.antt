-- What a splitter's fields stand for, by its scan: a tool of the splitter's model and of the proofs, not what is to be split.
use Rattle.std.specs.Prelude.{◌≡◌, ◌<◌, ◌≤◌, ◌+◌, ◌-◌, ◌^◌, ◌++◌, ◌∷◌, [], ℕ, zero, suc, Bool, true, false, List, length, drop, take, None}
use Rattle.ab_lex.specs.declared.scanner.Mode.{Mode}
use Rattle.ab_lex.specs.declared.scanner.Mode.TheVariants.{Plain, Slash, Line, Quoted, Block, BlockSlash, BlockStar}
use Rattle.ab_lex.specs.declared.scanner.Scan.{Scan}
use Rattle.ab_lex.specs.Units.{percent, quote, star, slash}
use Rattle.ab_lex.specs.Scanner.{behind, run, fresh, depth}
use Rattle.ab_lex.specs.PendingText.{Pending}

-- so many comments and one more, open
abbrev pub open_comments : ℕ → List ℕ
open_comments zero = slash ∷ star ∷ []
open_comments (suc d) = open_comments d ++ slash ∷ star ∷ []

-- bytes that bring a scan to this mode
abbrev pub bytes_to : Mode → List ℕ
bytes_to Plain = []
bytes_to Slash = slash ∷ []
bytes_to Line = percent ∷ []
bytes_to Quoted = quote ∷ []
bytes_to (Block d) = open_comments d
bytes_to (BlockSlash d) = open_comments d ++ slash ∷ []
bytes_to (BlockStar d) = open_comments d ++ star ∷ []

-- a letter, where something else than blanks and comments has come
abbrev pub letter_unless : Bool → List ℕ
letter_unless true = []
letter_unless false = 97 ∷ []

-- bytes that bring a scan to this one
abbrev pub bytes_before : Scan → List ℕ
bytes_before k = letter_unless k.blank ++ bytes_to k.mode

abbrev pub text_from : Bool → Scan → List ℕ → List ℕ
text_from false k s = s
text_from true k s = bytes_before k ++ s

-- the fields, seen from outside
abbrev pub view_of : List ℕ → ℕ → Scan → Bool → Pending
view_of buffer start scan skips = record { buffer = buffer; text = text_from skips scan (drop start buffer); in_long = skips }

abbrev pub is_quoted : Mode → Bool
is_quoted Quoted = true
is_quoted m = false

-- bytes can bring a scan to this one: a string is not blank
abbrev pub IsReached : Scan → Type 0
IsReached k = k.blank ≡ true → is_quoted k.mode ≡ false

-- between `start` and `scanned` no command ends, and the scan has come from `start` to `scanned`
pub record IsKept (buffer : List ℕ) (start scanned : ℕ) (scan : Scan) (skips : Bool) : Type 0 where
  pub in_order : start ≤ scanned
  pub in_buffer : scanned ≤ length buffer
  pub nothing_kept : skips ≡ true → start ≡ scanned
  pub no_end : skips ≡ false → behind fresh.mode (take (scanned - start) (drop start buffer)) ≡ None
  pub scan_is : skips ≡ false → scan ≡ run fresh (take (scanned - start) (drop start buffer))
  pub reached : skips ≡ true → IsReached scan
  -- so many comments as may come to be open can be counted
  pub shallow : depth scan.mode + (length buffer - scanned) < 2 ^ 64
