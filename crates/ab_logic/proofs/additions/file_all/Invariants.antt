use Rattle.std.proofs.Common.{◌≡◌, take, Some, if◌then◌else◌}
use Rattle.std.specs.HashMap.{get}
use Rattle.ab_store.specs.ab_types.specs.declared.ids.ConstId.{ConstId}
use Rattle.ab_logic.specs.Additions.{same_constant, is_among}
use Rattle.ab_logic.proofs.additions.file_all.Given as goal

abbrev pub invariant-loop-predicate : goal.invariant-loop-predicate
invariant-loop-predicate l = record {
  filed : (p : ConstId) → get same_constant l.places p ≡ (if is_among (take l.predicate-index l.predicates) p then Some l.place else (get same_constant l.initial.places p));
}
