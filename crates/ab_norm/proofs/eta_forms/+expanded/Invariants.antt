use Rattle.std.proofs.Common.{◌≡◌, ◌+◌, ◌*◌, ◌++◌, map, drop, length, codes}
use Rattle.std.specs.List.{All}
use Rattle.ab_store.specs.ab_types.specs.Ids.{type_of}
use Rattle.ab_store.specs.Trees.{Holds, tree_of}
use Rattle.ab_norm.specs.NodeGrowth.{AddsTypedTerms}
use Rattle.ab_norm.specs.BinderNames.{names}
use Rattle.ab_norm.proofs.Bounds.{size}
use Rattle.ab_norm.proofs.Expanded.{most}
use Rattle.ab_norm.proofs.eta_forms.+expanded.Given as goal

abbrev pub decreases-expand : goal.decreases-expand
decreases-expand l = 2 * size (type_of l.types.now l.ty)

abbrev pub decreases-give_names : goal.decreases-give_names
decreases-give_names l = 2 * most (map (type_of l.types.now) l.binders.now) + 1

abbrev pub invariant-give_names-loop-binder : goal.invariant-give_names-loop-binder
invariant-give_names-loop-binder l = record {
  inside : l.inside + l.binder-index ≡ length l.binders;
  held : All (Holds l.store) l.given.items;
  reads : map (tree_of l.types l.store) l.given.items ++ names (codes "x") (map (type_of l.types) (drop l.binder-index l.binders))
      ≡ map (tree_of l.types l.fn.store) l.fn.args.items ++ names (codes "x") (map (type_of l.types) l.binders);
  adds : AddsTypedTerms l.types l.fn.store l.store;
}
