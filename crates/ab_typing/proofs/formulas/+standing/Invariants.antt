use Rattle.std.proofs.Common.{◌+◌, ◌*◌, take}
use Rattle.std.specs.List.{All}
use Rattle.ab_store.specs.ab_types.specs.Entries.{Table}
use Rattle.ab_store.specs.Trees.{tree_of}
use Rattle.ab_formulas.specs.Formulas.{StandsIn, a_formula}
use Rattle.ab_typing.specs.Places.{place_of}
use Rattle.ab_typing.proofs.Bounds.{ids_bound}
use Rattle.ab_typing.proofs.formulas.+standing.Given as goal

abbrev pub decreases-stands : goal.decreases-stands
decreases-stands l = 4 * l.id.0 + 2

abbrev pub decreases-node_stands : goal.decreases-node_stands
decreases-node_stands l = 4 * l.id.0 + 1

abbrev pub decreases-stands_in : goal.decreases-stands_in
decreases-stands_in l = 4 * l.id.0 + 3

abbrev pub decreases-all_stand : goal.decreases-all_stand
decreases-all_stand l = 4 * ids_bound l.ids.now

abbrev pub invariant-all_stand-loop-id : goal.invariant-all_stand-loop-id
invariant-all_stand-loop-id l = record {
  seen : (types : Table) → All (λ t. StandsIn a_formula (tree_of types l.store t)) l.seen.keys;
  so_far : (types : Table) → All (λ t. StandsIn (place_of l.place) (tree_of types l.store t)) (take l.id-index l.ids);
}
