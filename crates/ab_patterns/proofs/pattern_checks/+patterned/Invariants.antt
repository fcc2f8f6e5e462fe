use Rattle.std.proofs.Common.{◌+◌, ◌*◌, take}
use Rattle.std.specs.List.{All}
use Rattle.ab_norm.specs.NodeGrowth.{AddsTypedTerms}
use Rattle.ab_norm.proofs.Bounds.{ids_bound}
use Rattle.ab_patterns.specs.ReadingWalks.{IsPatterned, AllPatterned}
use Rattle.ab_patterns.proofs.pattern_checks.+patterned.Given as goal

abbrev pub decreases-is_patterned : goal.decreases-is_patterned
decreases-is_patterned l = 4 * l.id.0 + 3

abbrev pub decreases-is_patterned_node : goal.decreases-is_patterned_node
decreases-is_patterned_node l = 4 * l.id.0 + 2

abbrev pub decreases-is_patterned_in : goal.decreases-is_patterned_in
decreases-is_patterned_in l = 4 * l.id.0 + 1

abbrev pub decreases-are_patterned : goal.decreases-are_patterned
decreases-are_patterned l = 4 * ids_bound l.ids.now

abbrev pub invariant-are_patterned-loop-id : goal.invariant-are_patterned-loop-id
invariant-are_patterned-loop-id l = record {
  adds : AddsTypedTerms l.types l.fn.store l.store;
  patterned : All (IsPatterned l.types l.fn.store l.cells.items) (take l.id-index l.ids);
  seen : AllPatterned l.types l.store l.cells.items l.seen;
}
