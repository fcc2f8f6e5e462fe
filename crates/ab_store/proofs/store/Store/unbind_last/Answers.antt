use Rattle.std.proofs.Common.{◌≡◌, ◌∷◌, ◌++◌, []}
use Rattle.ab_store.proofs.Rebinding.{undone_sound, undone_cells}
use Rattle.ab_store.proofs.store.Store.unbind_last.Goals as goal

last : (c : goal.After-self-1) → c.self.inside.trail.items ≡ c.pop.new.self.items ++ c.in-Some.last ∷ []
last c = c.in-Some.ensures.items

pub invariant_of-self : goal.invariant_of-self
invariant_of-self c =
    undone_sound c.self.inside.entries.items c.self.inside.slots.items c.self.inside.trail.items c.pop.new.self.items c.in-Some.last c.index_mut.result.now c.self.invariant (last c) c.index_mut.ensures.value

pub returns-in-Some-clause-cells : goal.returns-in-Some-clause-cells
returns-in-Some-clause-cells c =
    rw (← c.self.view_is) (undone_cells c.self.inside.entries.items c.self.inside.slots.items c.self.inside.trail.items c.pop.new.self.items c.in-Some.last c.index_mut.result.now c.self.invariant (last c) c.index_mut.ensures.value)
