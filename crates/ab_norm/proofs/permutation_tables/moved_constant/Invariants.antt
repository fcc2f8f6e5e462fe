use Rattle.std.proofs.Common.{◌≡◌, drop}
use Rattle.ab_term.specs.Names.{moved_by}
use Rattle.ab_store.specs.ab_types.specs.Entries.{Table}
use Rattle.ab_store.specs.ab_types.specs.Sound.{IsTable}
use Rattle.ab_norm.specs.Nominals.{nominal_of, pairs_of, HoldsNominal, HoldsPairs}
use Rattle.ab_norm.proofs.permutation_tables.moved_constant.Given as goal

-- what the rest of the table makes of it is the answer
abbrev pub invariant-loop-swap : goal.invariant-loop-swap
invariant-loop-swap l = (types : Table) → IsTable types → HoldsPairs types l.table → HoldsNominal types l.a →
    moved_by (pairs_of types (drop l.swap-index l.table)) (nominal_of types l.a) ≡ moved_by (pairs_of types l.table) (nominal_of types l.a)
