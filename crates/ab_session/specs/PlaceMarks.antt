-- Marks of places, one for each number: the places that are marked are those of the list. Public contracts don't speak of this.
use Rattle.std.specs.Prelude.{◌≡◌, ℕ, ◌<◌, ◌==◌, Bool, List, Some, length, slice_get}
use Rattle.std.specs.List.{list_any}

abbrev pub Marks : List Bool → List ℕ → Type 0
Marks ms js = (n : ℕ) → n < length ms → slice_get ms n ≡ Some (list_any (λ j. j == n) js)
