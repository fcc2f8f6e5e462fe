use Rattle.std.proofs.Common.{◌-◌, vec_len, vec_capacity}
use Rattle.ab_store.proofs.Kept.{order_at}
use Rattle.ab_store.proofs.store.Store.bindings.Goals as goal

pub returns-clause-order : goal.returns-clause-order
returns-clause-order c = rw (← c.self.view_is) (order_at c.self.inside.entries.items c.self.inside.slots.items c.self.inside.trail.items c.self.invariant (vec_capacity c.self.inside.trail - vec_len c.self.inside.trail))
