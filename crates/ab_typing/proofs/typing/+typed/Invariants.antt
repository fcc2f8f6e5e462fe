use Rattle.std.proofs.Common.{◌≡◌, ◌↔◌, ◌+◌, ◌*◌, map, drop}
use Rattle.ab_term.specs.Terms.{terms_of}
use Rattle.ab_term.specs.Typing.{TakeType}
use Rattle.ab_store.specs.ab_types.specs.Entries.{signature}
use Rattle.ab_store.specs.ab_types.specs.Ids.{type_of}
use Rattle.ab_store.specs.Trees.{tree_of}
use Rattle.ab_typing.specs.HeadArguments.{rest_type, HoldsRest, context, AreTyped}
use Rattle.ab_typing.proofs.Bounds.{ids_bound}
use Rattle.ab_typing.proofs.typing.+typed.Given as goal

abbrev pub decreases-check : goal.decreases-check
decreases-check l = 6 * l.id.0 + 3

abbrev pub decreases-check_node : goal.decreases-check_node
decreases-check_node l = 6 * l.id.0 + 2

abbrev pub decreases-check_function : goal.decreases-check_function
decreases-check_function l = 6 * l.id.0 + 1

abbrev pub decreases-check_wanted : goal.decreases-check_wanted
decreases-check_wanted l = 6 * l.id.0 + 4

abbrev pub decreases-check_all : goal.decreases-check_all
decreases-check_all l = 6 * ids_bound l.ids.now

abbrev pub invariant-check_all-loop-id : goal.invariant-check_all-loop-id
invariant-check_all-loop-id l = record {
  names : l.scope.names.items ≡ l.initial.scope.names.items;
  known : AreTyped l.types l.store l.scope.known.keys;
  held : HoldsRest l.types l.rest;
  same : TakeType (signature l.types) (context l.types l.initial.scope.names.items) (terms_of (map (tree_of l.types l.store) (drop l.id-index l.ids))) (rest_type l.types l.rest) (type_of l.types l.ty)
      ↔ TakeType (signature l.types) (context l.types l.initial.scope.names.items) (terms_of (map (tree_of l.types l.store) l.ids)) (rest_type l.types l.fn.first) (type_of l.types l.ty);
}
