use Rattle.std.proofs.Common.{◌-◌, vec_len, vec_capacity, sym, ap, subst, ◌∙◌}
use Rattle.ab_types.specs.Ids.{HoldsType}
use Rattle.ab_store.specs.declared.store.Slot.{Slot}
use Rattle.ab_store.specs.declared.node.CellEntry.{CellEntry}
use Rattle.ab_store.proofs.Kept.{held_cell, cell_at}
use Rattle.ab_store.proofs.store.Store.cell_type.Goals as goal

pub returns-clause-typed : goal.returns-clause-typed
returns-clause-typed c =
    let r = (vec_capacity c.self.inside.trail - vec_len c.self.inside.trail) in
    rw (← c.self.view_is) (λ table typed.
    let here = held_cell c.self.inside.entries.items c.self.inside.slots.items c.self.inside.trail.items r c.args.cell (rw (← c.self.view_is) at c.requires) in
    subst (λ (e : CellEntry). HoldsType table e.ty)
    (cell_at c.self.inside.entries.items c.self.inside.slots.items c.self.inside.trail.items c.args.cell.0 c.index.result.now here ∙ ap (λ (s : Slot). s.cell) (sym c.index.ensures))
    (typed.cells c.args.cell.0 c.index.result.now.cell (rw (← c.self.view_is) at c.requires)))
