use Rattle.std.proofs.Common.{◌≡◌, ◌-◌, length, take}
use Rattle.ab_norm.specs.ab_types.specs.Entries.{Table}
use Rattle.ab_norm.specs.ab_store.specs.Trees.{Holds, tree_of}
use Rattle.ab_norm.specs.NodeGrowth.{AddsTerms}
use Rattle.ab_patterns.specs.Existentials as quantified
use Rattle.ab_patterns.proofs.Over.{each}
use Rattle.ab_patterns.proofs.existentials.exists_over.Given as goal

-- the cells that are still to come make the answer of the formula so far
abbrev pub invariant-loop-done : goal.invariant-loop-done
invariant-loop-done l = record {
  adds : AddsTerms l.fn.store l.store;
  held : Holds l.store l.here;
  tree : (types : Table) → each types l.fn.store (take (length l.cells - l.done) l.cells) (tree_of types l.store l.here)
      ≡ quantified.exists_over types l.fn.store l.cells (tree_of types l.fn.store l.fn.body);
}
