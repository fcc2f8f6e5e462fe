-- A constant that stands twice in a list. Public contracts don't speak of it.
use Rattle.std.specs.Prelude.{◌≡◌, ℕ, ◌<◌, List, length, slice_index_or}
use Rattle.ab_norm.specs.declared.nominal.Nominal.{Nominal}

abbrev pub no_constant : Nominal
no_constant = record { number = 0; ty = record { 0 = 0 } }

-- the constant of the place stands at a later place too
abbrev pub StandsAgain : List Nominal → ℕ → Type 0
StandsAgain xs place = (later : ℕ) × place < later × later < length xs × (slice_index_or xs later no_constant ≡ slice_index_or xs place no_constant)
