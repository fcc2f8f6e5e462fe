use Rattle.std.proofs.Common.{◌≡◌, ◌++◌, map, drop, codes}
use Rattle.std.specs.List.{All}
use Rattle.ab_norm.specs.ab_types.specs.Ids.{HoldsType, type_of}
use Rattle.ab_norm.specs.ab_store.specs.Trees.{Holds, tree_of, head_reading}
use Rattle.ab_norm.specs.NodeGrowth.{AddsTypedTerms}
use Rattle.ab_patterns.specs.ArgumentNames.{name_list}
use Rattle.ab_patterns.proofs.applied_cells.give_names.Given as goal

abbrev pub invariant-loop-name : goal.invariant-loop-name
invariant-loop-name l = record {
  adds : AddsTypedTerms l.types l.fn.store l.store;
  held : All (Holds l.store) l.into.items;
  left : HoldsType l.types l.left;
  reads : map (tree_of l.types l.store) l.into.items ++ name_list (codes "x") (type_of l.types l.left) (map (head_reading l.types l.fn.store) (drop l.name-index l.names))
      ≡ map (tree_of l.types l.fn.store) l.fn.into.items ++ name_list (codes "x") (type_of l.types l.fn.ty) (map (head_reading l.types l.fn.store) l.names);
}
