use Rattle.std.proofs.Common.{◌≡◌, ◌+◌, ◌*◌, map, take}
use Rattle.std.specs.List.{All}
use Rattle.ab_norm.specs.ab_types.specs.Entries.{Table}
use Rattle.ab_norm.specs.ab_store.specs.Trees.{Holds, tree_of, head_reading}
use Rattle.ab_norm.specs.NodeGrowth.{AddsTerms}
use Rattle.ab_norm.proofs.Bounds.{ids_bound}
use Rattle.ab_patterns.specs.Abstraction.{IsToldApart, KeepsTerms, Remembers, close_names}
use Rattle.ab_patterns.proofs.abstraction.+closed.Given as goal

abbrev pub decreases-close_at : goal.decreases-close_at
decreases-close_at l = 3 * l.term.0 + 2

abbrev pub decreases-close_node : goal.decreases-close_node
decreases-close_node l = 3 * l.term.0 + 1

abbrev pub decreases-close_all : goal.decreases-close_all
decreases-close_all l = 3 * ids_bound l.terms.now

abbrev pub invariant-close_all-loop-term : goal.invariant-close_all-loop-term
invariant-close_all-loop-term l = record {
  adds : AddsTerms l.fn.store l.store;
  held : All (Holds l.store) l.closed.items;
  kept : KeepsTerms l.store l.memo;
  reads : (types : Table) → All (IsToldApart types l.fn.store) l.names → Remembers types l.fn.store l.names l.fn.memo → map (tree_of types l.store) l.closed.items ≡ map (λ t. close_names l.at (map (head_reading types l.fn.store) l.names) (tree_of types l.fn.store t)) (take l.term-index l.terms);
  memo : (types : Table) → All (IsToldApart types l.fn.store) l.names → Remembers types l.fn.store l.names l.fn.memo → Remembers types l.store l.names l.memo;
}
