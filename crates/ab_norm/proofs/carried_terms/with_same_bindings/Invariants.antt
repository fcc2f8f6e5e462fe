use Rattle.std.proofs.Common.{◌≡◌, ◌+◌, ◌≤◌, take, length}
use Rattle.ab_store.specs.Reading.{pairs}
use Rattle.ab_store.specs.Naming.{IsTypedBy}
use Rattle.ab_norm.specs.OtherStores.{Carries}
use Rattle.ab_norm.proofs.carried_terms.with_same_bindings.Given as goal

abbrev pub invariant-loop-binding : goal.invariant-loop-binding
invariant-loop-binding l = record {
  cells : l.apart.cells ≡ l.store.cells;
  pairs : pairs l.types l.apart ≡ take l.binding-index (pairs l.types l.store);
  typed : IsTypedBy l.types l.apart;
  memo : Carries l.types l.store l.apart l.memo;
  room : length l.store.bindings ≤ l.binding-index + l.apart.room;
}
