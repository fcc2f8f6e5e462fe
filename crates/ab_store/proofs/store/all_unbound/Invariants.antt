use Rattle.std.proofs.Common.{◌≡◌, map, take, None}
use Rattle.std.specs.List.{All}
use Rattle.ab_store.specs.declared.store.Slot.{Slot}
use Rattle.ab_store.proofs.store.all_unbound.Given as goal

abbrev pub invariant-loop-slot : goal.invariant-loop-slot
invariant-loop-slot l = record {
  cells : map (λ (s : Slot). s.cell) l.made.items ≡ map (λ (s : Slot). s.cell) (take l.slot-index l.slots);
  unbound : All (λ (s : Slot). s.binding ≡ None) l.made.items;
}
