use Rattle.std.proofs.Common.{◌+◌, ◌*◌, take}
use Rattle.std.specs.List.{All}
use Rattle.ab_store.specs.ab_types.specs.Entries.{Table}
use Rattle.ab_store.specs.Trees.{tree_of}
use Rattle.ab_typing.proofs.ClauseBounds.{ids_bound}
use Rattle.ab_formulas.specs.Heads.{KeepsNames}
use Rattle.ab_typing.specs.JudgedTerms.{AreKeeping}
use Rattle.ab_typing.specs.Parts.{place_of}
use Rattle.ab_typing.proofs.heads.+keeping.Given as goal

abbrev pub decreases-keeps : goal.decreases-keeps
decreases-keeps l = 3 * l.id.0 + 2

abbrev pub decreases-node_keeps : goal.decreases-node_keeps
decreases-node_keeps l = 3 * l.id.0 + 1

abbrev pub decreases-all_keep : goal.decreases-all_keep
decreases-all_keep l = 3 * ids_bound l.ids.now

abbrev pub invariant-all_keep-loop-id : goal.invariant-all_keep-loop-id
invariant-all_keep-loop-id l = record {
  spots : AreKeeping l.store l.spots;
  so_far : (types : Table) → All (λ t. KeepsNames (place_of l.place) l.inner (tree_of types l.store t)) (take l.id-index l.ids);
}
