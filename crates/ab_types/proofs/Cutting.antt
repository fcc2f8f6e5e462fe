-- What holds while a table is cut.
use Rattle.std.proofs.Common.{◌≡◌, ℕ, ◌+◌, ◌≤◌, length, take}
use Rattle.ab_types.specs.Entries.{Table}

pub record IsCut (len : ℕ) (old : Table) (begun : ℕ) (new : Table) (steps : ℕ) : Type 0 where
  pub front : new ≡ take (length new) old
  pub low : len ≤ length new
  pub high : length new ≤ length old
  pub counted : steps + length new ≡ begun + length old
