use Rattle.std.specs.List.{All}
use Rattle.std.specs.Prelude.{drop}
use Rattle.std.proofs.Common.{◌≡◌, ◌++◌, map}
use Rattle.ab_norm.specs.ab_types.specs.Entries.{Table}
use Rattle.ab_norm.specs.ab_store.specs.Trees.{Holds, tree_of}
use Rattle.ab_norm.specs.NodeGrowth.{AddsTerms}
use Rattle.ab_logic.specs.Forms.{sign_of}
use Rattle.ab_sequents.specs.Kinds.{marked_by}
use Rattle.ab_sequents.proofs.size_marks.mark_each.Given as goal

abbrev pub invariant-loop-index : goal.invariant-loop-index
invariant-loop-index l = record {
  adds : AddsTerms l.fn.store l.store;
  held : All (Holds l.store) l.made.items;
  reads : (types : Table) → map (tree_of types l.store) l.made.items ++ marked_by l.kind (drop l.index l.places) (sign_of l.sign) (drop l.index (map (tree_of types l.fn.store) l.parts))
      ≡ marked_by l.kind l.places (sign_of l.sign) (map (tree_of types l.fn.store) l.parts);
}
