use Rattle.std.proofs.Common.{◌+◌, ◌*◌, take}
use Rattle.std.specs.List.{All}
use Rattle.ab_store.specs.Bindings.{IsResolved}
use Rattle.ab_norm.specs.ResolvedTerms.{AllResolved}
use Rattle.ab_norm.proofs.Bounds.{ids_bound}
use Rattle.ab_norm.proofs.resolved_copies.+cleared.Given as goal

abbrev pub decreases-is_clear : goal.decreases-is_clear
decreases-is_clear l = 3 * l.id.0 + 2

abbrev pub decreases-is_clear_node : goal.decreases-is_clear_node
decreases-is_clear_node l = 3 * l.id.0 + 1

abbrev pub decreases-are_clear : goal.decreases-are_clear
decreases-are_clear l = 3 * ids_bound l.ids.now

abbrev pub invariant-are_clear-loop-id : goal.invariant-are_clear-loop-id
invariant-are_clear-loop-id l = record {
  clear : All (IsResolved l.store) (take l.id-index l.ids);
  seen : AllResolved l.store l.seen;
}
