use Rattle.std.proofs.Common.{◌≡◌, ◌++◌, drop}
use Rattle.ab_unifiers.specs.Patterns.{kept}
use Rattle.ab_patterns.proofs.applied_cells.keep_heads.Given as goal

abbrev pub invariant-loop-place : goal.invariant-loop-place
invariant-loop-place l = l.into.items ++ kept (drop l.place l.keep) (drop l.place l.heads) ≡ l.fn.into.items ++ kept l.keep l.heads
