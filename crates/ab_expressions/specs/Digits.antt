-- What the reader's functions ask of the digits of a number and of a quoted text.
use Rattle.std.specs.Prelude.{◌≡◌, ◌≢◌, ◌≤◌, ◌<◌, ℕ, true, List, length, slice_index, slice_range}
use Rattle.std.specs.List.{list_all}
use Rattle.std.specs.Char.{is_ascii_digit}
use Rattle.ab_expressions.specs.Tokens.{is_text_byte, unquoted}

-- at most nine digits
abbrev pub IsShort : List ℕ → Type 0
IsShort w = (list_all is_ascii_digit w ≡ true) × (length w ≤ 9)

-- digits of a number from 1 to 999,999,999, without a leading zero
abbrev pub IsPositive : List ℕ → Type 0
IsPositive w = IsShort w × (0 < length w) × (slice_index w 0 ≢ 48)

-- n, and such digits
abbrev pub HasNominalForm : List ℕ → Type 0
HasNominalForm x = (1 < length x) × (slice_index x 0 ≡ 110) × IsPositive (slice_range x 1 (length x))

-- two quotes, with what a quoted text may hold between
abbrev pub IsQuoted : List ℕ → Type 0
IsQuoted w = (2 ≤ length w) × (list_all is_text_byte (unquoted w) ≡ true)
