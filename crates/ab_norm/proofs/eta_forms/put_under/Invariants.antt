use Rattle.std.proofs.Common.{◌≡◌, map, codes, length}
use Rattle.std.specs.List.{All}
use Rattle.ab_store.specs.ab_types.specs.Entries.{Table}
use Rattle.ab_store.specs.ab_types.specs.Ids.{HoldsType, type_of}
use Rattle.ab_store.specs.Trees.{Holds, tree_of}
use Rattle.ab_store.specs.Naming.{IsTypedBy}
use Rattle.ab_norm.specs.NodeGrowth.{AddsTypedTerms}
use Rattle.ab_norm.specs.BinderNames.{under}
use Rattle.ab_norm.proofs.eta_forms.put_under.Given as goal

abbrev pub invariant-loop-ty : goal.invariant-loop-ty
invariant-loop-ty l = record {
  held : Holds l.store l.here;
  reads : (types : Table) → under (codes "x") (map (type_of types) l.binders.items) (tree_of types l.store l.here)
      ≡ under (codes "x") (map (type_of types) l.fn.binders.items) (tree_of types l.fn.store l.fn.body);
  types : (types : Table) → All (HoldsType types) l.fn.binders.items → All (HoldsType types) l.binders.items;
  adds : (types : Table) → IsTypedBy types l.fn.store → All (HoldsType types) l.fn.binders.items → AddsTypedTerms types l.fn.store l.store;
}

abbrev pub decreases-loop-ty : goal.decreases-loop-ty
decreases-loop-ty l = length l.binders.items
