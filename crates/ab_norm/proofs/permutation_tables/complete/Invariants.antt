use Rattle.std.proofs.Common.{take}
use Rattle.ab_term.specs.Names.{moved_by}
use Rattle.ab_store.specs.ab_types.specs.Entries.{Table}
use Rattle.ab_store.specs.ab_types.specs.Sound.{IsTable}
use Rattle.ab_norm.specs.Nominals.{pairs_of, HoldsPairs}
use Rattle.ab_norm.specs.NameMatches.{Sends}
use Rattle.ab_norm.specs.PermutationTables.{Permutes}
use Rattle.ab_norm.proofs.permutation_tables.complete.Given as goal

abbrev pub invariant-loop-pair : goal.invariant-loop-pair
invariant-loop-pair l = (types : Table) → IsTable types → HoldsPairs types l.decided →
    Permutes types l.table.items × Sends types (moved_by (pairs_of types l.table.items)) (take l.pair-index l.decided)
