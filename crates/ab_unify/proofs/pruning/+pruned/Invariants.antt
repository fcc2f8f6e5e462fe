use Rattle.std.proofs.Common.{◌≡◌, ◌+◌, ◌*◌, ◌≤◌, List, ℕ, false, map, take, codes}
use Rattle.std.specs.List.{All}
use Rattle.ab_term.specs.Types.{Ty}
use Rattle.ab_term.specs.Terms as tree
use Rattle.ab_term.specs.Terms.{terms_of}
use Rattle.ab_term.specs.Typing.{TakeType}
use Rattle.ab_norm.specs.ab_types.specs.Entries.{Table, signature}
use Rattle.ab_norm.specs.ab_store.specs.declared.node.CellId.{CellId}
use Rattle.ab_norm.specs.ab_store.specs.Trees.{Contents, Holds, tree_of, head_reading}
use Rattle.ab_norm.specs.ab_store.specs.Reading.{cell_variable}
use Rattle.ab_norm.proofs.Bounds.{ids_bound}
use Rattle.ab_patterns.specs.ab_unifiers.specs.Replacements.{Change, pruned_all}
use Rattle.ab_patterns.specs.ReadingWalks.{deep}
use Rattle.ab_unify.specs.Pruning.{AllPruned}
use Rattle.ab_unify.specs.StoreChanges.{Grows, IsFree, Changed, AllUnbound, AreNames}
use Rattle.ab_unify.proofs.pruning.+pruned.Given as goal

abbrev pub decreases-prune : goal.decreases-prune
decreases-prune g l = 3 * l.term.0 + 2

abbrev pub decreases-prune_node : goal.decreases-prune_node
decreases-prune_node g l = 3 * l.term.0 + 1

abbrev pub decreases-prune_all : goal.decreases-prune_all
decreases-prune_all g l = 3 * ids_bound l.terms.now

abbrev pub invariant-prune_all-loop-term : goal.invariant-prune_all-loop-term
invariant-prune_all-loop-term g l = record {
  grows : Grows l.fn.types l.fn.store l.types l.store;
  steps : l.fn.steps ≤ l.steps;
  free : All (IsFree l.store) l.flexible.items;
  still : l.lost ≡ false → l.store.cells ≡ l.fn.store.cells;
  changed : (T : Table) (S : Contents) (F : List CellId) (c : Change (List ℕ)) → Changed T S F c l.fn.types l.fn.store l.fn.flexible.items →
      AreNames T l.names → (G : List Ty) (A B : Ty) → All (Holds S) l.terms → TakeType (signature T) G (terms_of (map (tree_of T S) l.terms)) A B →
      All (λ t. AllUnbound S (tree_of T S t)) l.terms →
      (outer : List (tree.Head ℕ)) (depth : ℕ) → map (head_reading T S) l.names ≡ deep depth outer → AllPruned T S F outer c l.fn.seen →
      let d = pruned_all (codes "x") (map (cell_variable T S) F) (map (head_reading T S) l.names) (terms_of (map (tree_of T S) (take l.term-index l.terms))) c in
      Changed T S F d l.types l.store l.flexible.items × AllPruned T S F outer d l.seen;
}
