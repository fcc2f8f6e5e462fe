use Rattle.std.proofs.Common.{◌≡◌, ◌+◌, ◌*◌, map, take}
use Rattle.std.specs.List.{All}
use Rattle.ab_norm.specs.ab_store.specs.Trees.{Holds, tree_of}
use Rattle.ab_norm.specs.NodeGrowth.{AddsTypedTerms}
use Rattle.ab_norm.proofs.Bounds.{ids_bound}
use Rattle.ab_formulas.specs.Marks.{erased}
use Rattle.ab_sequents.proofs.unmarked_formulas.+erased.Given as goal

abbrev pub decreases-erase : goal.decreases-erase
decreases-erase l = 3 * l.id.0 + 2

abbrev pub decreases-erase_spine : goal.decreases-erase_spine
decreases-erase_spine l = 3 * ids_bound l.args.now + 1

abbrev pub decreases-erase_all : goal.decreases-erase_all
decreases-erase_all l = 3 * ids_bound l.ids.now

abbrev pub invariant-erase_all-loop-id : goal.invariant-erase_all-loop-id
invariant-erase_all-loop-id l = record {
  adds : AddsTypedTerms l.types l.fn.store l.store;
  held : All (Holds l.store) l.made.items;
  reads : map (tree_of l.types l.store) l.made.items ≡ map (λ t. erased (tree_of l.types l.fn.store t)) (take l.id-index l.ids);
}
