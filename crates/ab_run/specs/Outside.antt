-- What stands outside a run.
use Rattle.std.specs.Prelude.{ℕ, List, Option}
use Rattle.ab_sigmod.specs.FileLoads.{FilesSeen}

-- the bytes of the input that are left and those that were written, as far as they are told, the counts of failed reads and writes,
-- and what is told of the files
pub record Outside : Type 0 where
  pub left : Option (List ℕ)
  pub written : Option (List ℕ)
  pub reads : ℕ
  pub writes : ℕ
  pub files : FilesSeen

abbrev pub outside : Option (List ℕ) → Option (List ℕ) → ℕ → ℕ → FilesSeen → Outside
outside left written reads writes files = record { left = left; written = written; reads = reads; writes = writes; files = files }
