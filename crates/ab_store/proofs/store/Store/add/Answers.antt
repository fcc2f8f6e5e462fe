use Rattle.std.proofs.Common.{◌-◌, vec_len, vec_capacity, arith}
use Rattle.ab_store.specs.declared.store.NodeEntry.{NodeEntry}
use Rattle.ab_store.proofs.Kept.{sound_pushed, new_tree, new_put, new_reads, typed_pushed, extended}
use Rattle.ab_store.proofs.store.Store.add.Goals as goal

abbrev added : goal.In_ok-push → NodeEntry
added c = record { node = c.args.node; facts = c.args.facts }

pub invariant_of-self-2 : goal.invariant_of-self-2
invariant_of-self-2 c =
    rw c.in_ok-push.ensures.items (sound_pushed c.self.inside.entries.items c.self.inside.slots.items c.self.inside.trail.items (added c) c.self.invariant
    (rw (← c.self.view_is) at c.requires.names) (rw (← c.self.view_is) at c.requires.facts))

pub returns-clause-tree : goal.returns-clause-tree
returns-clause-tree c =
    rw (c.in_ok-push.ensures.items, ← c.self.view_is) (λ types. new_tree c.self.inside.entries.items c.self.inside.slots.items c.self.inside.trail.items (added c) (vec_capacity c.self.inside.trail - vec_len c.self.inside.trail)
    types (record { 0 = c.len-place.result }) (omega (arith, c.len-place.ensures, c.self.inside.entries.ok.0)))

pub returns-clause-reads : goal.returns-clause-reads
returns-clause-reads c =
    rw (c.in_ok-push.ensures.items, ← c.self.view_is) (λ types G A. new_reads c.self.inside.entries.items c.self.inside.slots.items c.self.inside.trail.items (added c) (vec_capacity c.self.inside.trail - vec_len c.self.inside.trail) c.self.invariant
    types G A (record { 0 = c.len-place.result }) (omega (arith, c.len-place.ensures, c.self.inside.entries.ok.0)))

pub returns-clause-typed : goal.returns-clause-typed
returns-clause-typed c =
    rw (c.in_ok-push.ensures.items, ← c.self.view_is) (typed_pushed c.self.inside.entries.items c.self.inside.slots.items c.self.inside.trail.items (added c) (vec_capacity c.self.inside.trail - vec_len c.self.inside.trail) c.self.invariant
    (rw (← c.self.view_is) at c.requires.names))

pub returns-clause-before : goal.returns-clause-before
returns-clause-before c =
    rw (c.in_ok-push.ensures.items, ← c.self.view_is) (extended c.self.inside.entries.items c.self.inside.slots.items c.self.inside.trail.items (added c) (vec_capacity c.self.inside.trail - vec_len c.self.inside.trail) c.self.invariant)

pub returns-clause-put : goal.returns-clause-put
returns-clause-put c =
    rw (c.in_ok-push.ensures.items, ← c.self.view_is) (λ types. new_put c.self.inside.entries.items c.self.inside.slots.items c.self.inside.trail.items (added c) (vec_capacity c.self.inside.trail - vec_len c.self.inside.trail) c.self.invariant
    types (record { 0 = c.len-place.result }) (omega (arith, c.len-place.ensures, c.self.inside.entries.ok.0)))
