use Rattle.std.proofs.Common.{◌≡◌, ◌+◌, ◌*◌, ◌^◌, ◌≤◌, map, take}
use Rattle.std.specs.List.{All}
use Rattle.ab_store.specs.Reading.{Holds, tree_of}
use Rattle.ab_norm.specs.NodeGrowth.{AddsTerms}
use Rattle.ab_norm.specs.ResolvedTerms.{put_first, KeepsPut, left, bindings_left, Becomes}
use Rattle.ab_norm.proofs.Bounds.{ids_bound}
use Rattle.ab_norm.proofs.PutIn.{numbers_of}
use Rattle.ab_norm.proofs.bindings_put_in.+resolved.Given as goal

-- first the bindings go down that are left to be put in, and then the term, whose number is below 2 ^ 64
abbrev pub decreases-resolve : goal.decreases-resolve
decreases-resolve g l = bindings_left l.types.now l.store.now l.id * 2 ^ 68 + (4 * l.id.0 + 2)

abbrev pub decreases-resolve_node : goal.decreases-resolve_node
decreases-resolve_node g l = bindings_left l.types.now l.store.now l.id * 2 ^ 68 + (4 * l.id.0 + 1)

abbrev pub decreases-resolve_all : goal.decreases-resolve_all
decreases-resolve_all g l = left l.store.now.bindings (numbers_of l.types.now l.store.now l.ids.now) * 2 ^ 68 + 4 * ids_bound l.ids.now

abbrev pub invariant-resolve-heads : goal.invariant-resolve-heads
invariant-resolve-heads g l = record {
  adds : AddsTerms l.fn.store l.store;
  here : Becomes l.types l.store l.count (put_first l.types l.fn.store l.count (tree_of l.types l.fn.store l.fn.id)) l.here;
  passed : All (Becomes l.types l.store l.count (put_first l.types l.fn.store l.count (tree_of l.types l.fn.store l.fn.id))) l.passed.items;
  memo : KeepsPut l.types l.store l.memo;
  smaller : bindings_left l.types l.store l.here * 2 ^ 68 + 4 * l.here.0 ≤ bindings_left l.types l.fn.store l.fn.id * 2 ^ 68 + 4 * l.fn.id.0;
  steps : l.fn.steps ≤ l.steps;
}

abbrev pub decreases-resolve-heads : goal.decreases-resolve-heads
decreases-resolve-heads g l = bindings_left l.types l.store l.here

abbrev pub invariant-resolve_all-loop-id : goal.invariant-resolve_all-loop-id
invariant-resolve_all-loop-id g l = record {
  adds : AddsTerms l.fn.store l.store;
  held : All (Holds l.store) l.made.items;
  trees : map (tree_of l.types l.store) l.made.items ≡ map (λ t. put_first l.types l.fn.store l.count (tree_of l.types l.fn.store t)) (take l.id-index l.ids);
  memo : KeepsPut l.types l.store l.memo;
  steps : l.fn.steps ≤ l.steps;
}
