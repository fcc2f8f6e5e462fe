use Rattle.std.proofs.Common.{◌+◌, ◌*◌, take}
use Rattle.std.specs.List.{All}
use Rattle.ab_norm.specs.ab_types.specs.Entries.{Table}
use Rattle.ab_norm.proofs.Bounds.{ids_bound}
use Rattle.ab_patterns.specs.ReadingWalks.{IsAbsent, AllAbsent}
use Rattle.ab_patterns.proofs.occurrences.+absent.Given as goal

abbrev pub decreases-is_absent : goal.decreases-is_absent
decreases-is_absent l = 3 * l.id.0 + 2

abbrev pub decreases-is_absent_node : goal.decreases-is_absent_node
decreases-is_absent_node l = 3 * l.id.0 + 1

abbrev pub decreases-are_absent : goal.decreases-are_absent
decreases-are_absent l = 3 * ids_bound l.ids.now

abbrev pub invariant-are_absent-loop-id : goal.invariant-are_absent-loop-id
invariant-are_absent-loop-id l = record {
  absent : (types : Table) → All (IsAbsent types l.store l.cell) (take l.id-index l.ids);
  seen : (types : Table) → AllAbsent types l.store l.cell l.seen;
}
