-- How far a number has come, digit by digit: a tool of the reader.
use Rattle.std.specs.Prelude.{◌≡◌, ◌==◌, ◌≤◌, ◌<◌, ◌+◌, ◌-◌, ◌*◌, ℕ, nat_lt, if◌then◌else◌, length, take, drop, List, [], ◌∷◌, Option, Some, None}
use Rattle.std.specs.Char.{is_ascii_digit}
use Rattle.ab_cert.specs.declared.count.Count.{Count}
use Rattle.ab_cert.specs.declared.count.Count.TheVariants.{Nothing, Value}

-- the value, if it is below the limit
abbrev pub kept_below : ℕ → ℕ → Option Count
kept_below limit n = if nat_lt n limit then Some (Value n) else None

-- behind one more digit
abbrev pub next_digit : ℕ → Count → ℕ → Option Count
next_digit limit Nothing b = kept_below limit (b - 48)
next_digit limit (Value v) b = if v == 0 then None else kept_below limit (v * 10 + (b - 48))

-- behind one more byte, if a number may go on so
abbrev pub next_count : ℕ → Count → ℕ → Option Count
next_count limit s b = if is_ascii_digit b then next_digit limit s b else None

-- behind some bytes
abbrev pub count_run : ℕ → Option Count → List ℕ → Option Count
count_run limit o [] = o
count_run limit None (b ∷ x) = None
count_run limit (Some s) (b ∷ x) = count_run limit (next_count limit s b) x

-- the value is below the limit
abbrev pub IsBelow : ℕ → Count → Type 0
IsBelow limit Nothing = Unit {0}
IsBelow limit (Value v) = v < limit

-- no number that has come so far goes on by the next byte
abbrev pub IsFull : ℕ → Count → List ℕ → Type 0
IsFull limit s [] = Unit {0}
IsFull limit s (b ∷ back) = next_count limit s b ≡ None

-- the bytes from one place to another are the front of a number that has come so far, and the next byte is none of it
pub record IsCountScan (limit : ℕ) (bytes : List ℕ) (start to : ℕ) (count : Count) : Type 0 where
  pub onward : start ≤ to
  pub within : to ≤ length bytes
  pub came : count_run limit (Some Nothing) (take (to - start) (drop start bytes)) ≡ Some count
  pub full : IsFull limit count (drop to bytes)
