use Rattle.std.proofs.Common.{◌≡◌, ◌+◌, ◌*◌, ◌^◌, ◌≤◌, map, take}
use Rattle.std.specs.List.{All}
use Rattle.ab_store.specs.ab_types.specs.Ids.{type_of}
use Rattle.ab_store.specs.Trees.{Holds, tree_of}
use Rattle.ab_norm.specs.Changes.{changed, Remembers, AddsFor}
use Rattle.ab_norm.proofs.Bounds.{ids_bound, size, rank}
use Rattle.ab_norm.proofs.term_walks.+walked.Given as goal

-- first the type goes down, and then the term, whose number is below 2 ^ 64
abbrev pub decreases-walk : goal.decreases-walk
decreases-walk g l = rank l.types.now l.change.now * 2 ^ 68 + (4 * l.id.0 + 3)

abbrev pub decreases-remake : goal.decreases-remake
decreases-remake g l = rank l.types.now l.change.now * 2 ^ 68 + (4 * l.id.0 + 2)

abbrev pub decreases-walk_all : goal.decreases-walk_all
decreases-walk_all g l = rank l.types.now l.change.now * 2 ^ 68 + (4 * ids_bound l.ids.now + 1)

abbrev pub decreases-walk_head : goal.decreases-walk_head
decreases-walk_head g l = rank l.types.now l.change.now * 2 ^ 68 + 1

abbrev pub decreases-lift : goal.decreases-lift
decreases-lift g l = 2 ^ 68

abbrev pub decreases-reduce : goal.decreases-reduce
decreases-reduce g l = size (type_of l.types.now l.ty) * 2 ^ 68

abbrev pub invariant-walk_all-loop-id : goal.invariant-walk_all-loop-id
invariant-walk_all-loop-id g l = record {
  adds : AddsFor l.change l.fn.store l.store;
  held : All (Holds l.store) l.made.items;
  reads : map (tree_of l.types l.store) l.made.items ≡ map (λ t. changed l.types l.fn.store l.change l.depth (tree_of l.types l.fn.store t)) (take l.id-index l.ids);
  memo : Remembers l.types l.store l.change l.memo;
  steps : l.fn.steps ≤ l.steps;
}
