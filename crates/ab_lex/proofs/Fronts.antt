-- What stands at the front of a text, as bytes.
use Rattle.std.proofs.Common.{◌≡◌, ℕ, List, [], ◌∷◌, ◌++◌, refl, ap}
use Rattle.ab_lex.specs.Units.{LineEnds, at_end, at_newline, in_line, StringEnds, at_quote, in_string, BlocksEnd, outside, opens, closes, in_block, GapAt, blank, line_comment, block_comment}

-- the bytes of s in front of r
pub record Front (s r : List ℕ) : Type 0 where
  pub bytes : List ℕ
  pub split : s ≡ bytes ++ r

pub one_more : {s r : List ℕ} (b : ℕ) → Front s r → Front (b ∷ s) r
one_more b f = record { bytes = b ∷ f.bytes; split = ap (λ q. b ∷ q) f.split }

pub none : (s : List ℕ) → Front s s
none s = record { bytes = []; split = refl }

pub line_front : {s r : List ℕ} → LineEnds s r → Front s r
line_front at_end = none []
line_front (at_newline {b = b} {s = s} e) = one_more b (none s)
line_front (in_line {b = b} n l) = one_more b (line_front l)

pub blocks_front : {n : ℕ} {s r : List ℕ} → BlocksEnd n s r → Front s r
blocks_front (outside {s = s}) = none s
blocks_front (opens {b = b} {c = c} o l) = one_more b (one_more c (blocks_front l))
blocks_front (closes {b = b} {c = c} o l) = one_more b (one_more c (blocks_front l))
blocks_front (in_block {b = b} h l) = one_more b (blocks_front l)

pub string_front : {s r : List ℕ} → StringEnds s r → Front s r
string_front (at_quote {b = b} {s = s} e) = one_more b (none s)
string_front (in_string {b = b} n l) = one_more b (string_front l)

pub gap_bytes : {s r : List ℕ} → GapAt s r → Front s r
gap_bytes (blank {b = b} {s = s} h) = one_more b (none s)
gap_bytes (line_comment {b = b} e l) = one_more b (line_front l)
gap_bytes (block_comment {b = b} {c = c} o l) = one_more b (one_more c (blocks_front l))
