use Rattle.std.proofs.Common.{◌+◌, ◌*◌, map, take}
use Rattle.std.specs.List.{All}
use Rattle.ab_store.specs.ab_types.specs.Entries.{Table}
use Rattle.ab_store.specs.Trees.{tree_of}
use Rattle.ab_typing.specs.Cells.{variable_of}
use Rattle.ab_formulas.specs.GoalTerms.{HoldsOnly}
use Rattle.ab_typing.proofs.Bounds.{ids_bound}
use Rattle.ab_typing.proofs.variables.+held.Given as goal

abbrev pub decreases-holds : goal.decreases-holds
decreases-holds l = 3 * l.id.0 + 2

abbrev pub decreases-node_holds : goal.decreases-node_holds
decreases-node_holds l = 3 * l.id.0 + 1

abbrev pub decreases-all_hold : goal.decreases-all_hold
decreases-all_hold l = 3 * ids_bound l.ids.now

abbrev pub invariant-all_hold-loop-id : goal.invariant-all_hold-loop-id
invariant-all_hold-loop-id l = record {
  seen : (types : Table) → All (λ t. HoldsOnly (map (variable_of types l.store) l.variables) (tree_of types l.store t)) l.seen.keys;
  so_far : (types : Table) → All (λ t. HoldsOnly (map (variable_of types l.store) l.variables) (tree_of types l.store t)) (take l.id-index l.ids);
}
