-- Bytes put behind others.
use Rattle.std.specs.Prelude.{◌≡◌, ℕ, List, ◌++◌}

-- WHAT WAS THERE STILL STANDS IN FRONT
abbrev pub Extends : List ℕ → List ℕ → Type 0
Extends old new = (more : List ℕ) × (new ≡ old ++ more)
