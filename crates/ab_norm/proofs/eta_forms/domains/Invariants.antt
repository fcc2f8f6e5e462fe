use Rattle.std.proofs.Common.{◌≡◌, ◌++◌, map}
use Rattle.std.specs.List.{All}
use Rattle.ab_store.specs.ab_types.specs.Ids.{HoldsType, type_of}
use Rattle.ab_norm.specs.BinderNames.{domains}
use Rattle.ab_norm.proofs.Bounds.{size}
use Rattle.ab_norm.proofs.eta_forms.domains.Given as goal

abbrev pub invariant-loop-from : goal.invariant-loop-from
invariant-loop-from l = record {
  left : HoldsType l.types l.left;
  held : All (HoldsType l.types) l.list.items;
  reads : map (type_of l.types) l.list.items ++ domains (type_of l.types l.left) ≡ domains (type_of l.types l.fn.ty);
}

abbrev pub decreases-loop-from : goal.decreases-loop-from
decreases-loop-from l = size (type_of l.types l.left)
