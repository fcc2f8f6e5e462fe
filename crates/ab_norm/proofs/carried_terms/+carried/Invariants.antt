use Rattle.std.proofs.Common.{◌≡◌, ◌+◌, ◌*◌, map, take}
use Rattle.std.specs.List.{All}
use Rattle.ab_store.specs.Trees.{Holds, tree_of}
use Rattle.ab_norm.specs.NodeGrowth.{AddsTypedTerms}
use Rattle.ab_norm.proofs.Bounds.{ids_bound}
use Rattle.ab_norm.specs.OtherStores.{Carries}
use Rattle.ab_norm.proofs.carried_terms.+carried.Given as goal

abbrev pub decreases-carry : goal.decreases-carry
decreases-carry l = 3 * l.id.0 + 2

abbrev pub decreases-carry_node : goal.decreases-carry_node
decreases-carry_node l = 3 * l.id.0 + 1

abbrev pub decreases-carry_all : goal.decreases-carry_all
decreases-carry_all l = 3 * ids_bound l.ids.now

abbrev pub invariant-carry_all-loop-id : goal.invariant-carry_all-loop-id
invariant-carry_all-loop-id l = record {
  adds : AddsTypedTerms l.types l.fn.apart l.apart;
  held : All (Holds l.apart) l.made.items;
  trees : map (tree_of l.types l.apart) l.made.items ≡ map (tree_of l.types l.store) (take l.id-index l.ids);
  memo : Carries l.types l.store l.apart l.memo;
}
