-- A span of bytes.
use Rattle.std.specs.Prelude.{◌≤◌, ℕ, List, slice_range}
use Rattle.ab_lex.specs.declared.token.Span.{Span}

-- the span lies in bytes of this number
abbrev pub IsWithin : ℕ → Span → Type 0
IsWithin count span = (span.start ≤ span.end) × (span.end ≤ count)

-- the bytes of a span
abbrev pub bytes_at : List ℕ → Span → List ℕ
bytes_at bytes span = slice_range bytes span.start span.end
