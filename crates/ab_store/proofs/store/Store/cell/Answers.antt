use Rattle.std.proofs.Common.{◌-◌, vec_len, vec_capacity, None, refl, arith}
use Rattle.ab_store.specs.declared.store.Slot.{Slot}
use Rattle.ab_store.proofs.Kept.{typed_with_cell, sound_with_cell, extended_by_cell, new_unbound}
use Rattle.ab_store.proofs.store.Store.cell.Goals as goal

abbrev added : goal.In_ok-push → Slot
added c = record { cell = record { hint = c.args.hint; ty = c.args.ty }; binding = None }

pub invariant_of-self-2 : goal.invariant_of-self-2
invariant_of-self-2 c =
    rw c.in_ok-push.ensures.items (sound_with_cell c.self.inside.entries.items c.self.inside.slots.items c.self.inside.trail.items (added c) refl c.self.invariant)

pub returns-clause-before : goal.returns-clause-before
returns-clause-before c =
    rw (c.in_ok-push.ensures.items, ← c.self.view_is) (extended_by_cell c.self.inside.entries.items c.self.inside.slots.items c.self.inside.trail.items (added c) c.self.invariant (vec_capacity c.self.inside.trail - vec_len c.self.inside.trail))

pub returns-clause-typed : goal.returns-clause-typed
returns-clause-typed c =
    rw (c.in_ok-push.ensures.items, ← c.self.view_is) (typed_with_cell c.self.inside.entries.items c.self.inside.slots.items c.self.inside.trail.items (added c) c.self.invariant (vec_capacity c.self.inside.trail - vec_len c.self.inside.trail))

pub returns-clause-unbound : goal.returns-clause-unbound
returns-clause-unbound c =
    new_unbound c.self.inside.entries.items c.self.inside.slots.items c.self.inside.trail.items (added c) c.self.invariant 0 (record { 0 = c.len-place.result }) (omega (arith, c.len-place.ensures, c.self.inside.slots.ok.0))
