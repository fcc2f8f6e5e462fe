use Rattle.std.proofs.Common.{◌≡◌, map, length, get_or, None, ap, subst, arith}
use Rattle.std.proofs.lemmas.List.{length-map}
use Rattle.ab_store.specs.declared.store.Slot.{Slot}
use Rattle.ab_store.specs.Trees.{Contents}
use Rattle.ab_store.specs.NamedTypes.{type_in_cell}
use Rattle.ab_store.proofs.NamedTypes.{one_further, told_by_slot}
use Rattle.ab_store.proofs.store.Store.last_in_cells.Goals as goal

pub loop-place-preserved : goal.loop-place-preserved
loop-place-preserved c =
    one_further (map type_in_cell c.args.self.now.cells) c.args.first c.loop-place.place c.loop-place.last c.loop-place.invariant (type_in_cell c.index.result.now.cell) c.later-last.result
    (omega (arith, c.loop-place-test.true, c.len-place-end.ensures, c.self.inside.slots.ok.0, length-map c.args.self.now.cells type_in_cell, ap (λ (s : Contents). length s.cells) c.self.view_is, length-map c.self.inside.slots.items (λ (x : Slot). x.cell)))
    (subst (λ (s : Contents). get_or (map type_in_cell s.cells) c.loop-place.place None ≡ type_in_cell c.index.result.now.cell) c.self.view_is
    (told_by_slot c.self.inside.slots.items c.loop-place.place c.index.result.now (omega (arith, c.loop-place-test.true, c.len-place-end.ensures, c.self.inside.slots.ok.0)) c.index.ensures))
    (c.later-last.ensures)
