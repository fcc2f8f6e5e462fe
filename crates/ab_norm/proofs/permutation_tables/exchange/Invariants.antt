use Rattle.std.proofs.Common.{◌≡◌, map, take}
use Rattle.ab_store.specs.ab_types.specs.Entries.{Table}
use Rattle.ab_store.specs.ab_types.specs.Sound.{IsTable}
use Rattle.ab_norm.specs.Nominals.{nominal_of, pairs_of, HoldsNominal, HoldsPairs}
use Rattle.ab_norm.specs.PermutationTables.{retargeted}
use Rattle.ab_norm.proofs.permutation_tables.exchange.Given as goal

abbrev pub invariant-loop-swap : goal.invariant-loop-swap
invariant-loop-swap l = (types : Table) → IsTable types → HoldsNominal types l.x → HoldsNominal types l.y → HoldsPairs types l.table →
    HoldsPairs types l.made.items × (pairs_of types l.made.items ≡ map (retargeted (nominal_of types l.x) (nominal_of types l.y)) (pairs_of types (take l.swap-index l.table)))
