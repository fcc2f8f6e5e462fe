use Rattle.std.proofs.Common.{◌+◌, ◌*◌, take}
use Rattle.std.specs.List.{All}
use Rattle.ab_norm.proofs.Bounds.{ids_bound}
use Rattle.ab_patterns.specs.ReadingWalks.{IsOwn, AllOwn}
use Rattle.ab_patterns.proofs.foreign_names.+owned.Given as goal

abbrev pub decreases-is_own : goal.decreases-is_own
decreases-is_own l = 3 * l.id.0 + 2

abbrev pub decreases-is_own_node : goal.decreases-is_own_node
decreases-is_own_node l = 3 * l.id.0 + 1

abbrev pub decreases-are_own : goal.decreases-are_own
decreases-are_own l = 3 * ids_bound l.ids.now

abbrev pub invariant-are_own-loop-id : goal.invariant-are_own-loop-id
invariant-are_own-loop-id l = record {
  own : All (IsOwn l.types l.store l.cells.items l.names l.depth) (take l.id-index l.ids);
  seen : AllOwn l.types l.store l.cells.items l.names l.seen;
}
