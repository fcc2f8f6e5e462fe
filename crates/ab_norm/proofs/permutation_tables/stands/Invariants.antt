use Rattle.std.proofs.Common.{◌≢◌, take}
use Rattle.std.specs.List.{All}
use Rattle.ab_norm.proofs.permutation_tables.stands.Given as goal

abbrev pub invariant-loop-swap : goal.invariant-loop-swap
invariant-loop-swap l = All (λ p. p.from ≢ l.a) (take l.swap-index l.table)
