-- What the holder of a tally owns: the place of this name in proofs' own memory, at which the number stands.
use Rattle.std.specs.Prelude.{ℕ}
use base.Stored.{gnum}
use base.Fml.{Fml, fsep, fobs, fauth}

abbrev pub tally_owns : ℕ → ℕ → Fml
tally_owns name count = fsep (fobs name (gnum count)) (fauth name (gnum count))
