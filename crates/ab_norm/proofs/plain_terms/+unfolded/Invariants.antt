use Rattle.std.proofs.Common.{◌≡◌, ◌+◌, ◌*◌, map, take}
use Rattle.std.specs.List.{All}
use Rattle.ab_store.specs.ab_types.specs.Entries.{Table}
use Rattle.ab_store.specs.Trees.{tree_of}
use Rattle.ab_store.specs.Naming.{IsTypedBy}
use Rattle.ab_norm.specs.NodeTrees.{tree_reading, HoldsTree}
use Rattle.ab_norm.proofs.Bounds.{ids_bound}
use Rattle.ab_norm.proofs.plain_terms.+unfolded.Given as goal

abbrev pub decreases-unfold : goal.decreases-unfold
decreases-unfold l = 2 * l.id.0 + 1

abbrev pub decreases-unfold_all : goal.decreases-unfold_all
decreases-unfold_all l = 2 * ids_bound l.ids.now

abbrev pub invariant-unfold_all-loop-id : goal.invariant-unfold_all-loop-id
invariant-unfold_all-loop-id l = record {
  reads : (types : Table) → map (tree_reading types l.store) l.trees.items ≡ map (tree_of types l.store) (take l.id-index l.ids);
  held : (types : Table) → IsTypedBy types l.store → All (HoldsTree types l.store) l.trees.items;
}
