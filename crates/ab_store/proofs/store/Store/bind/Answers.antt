use Rattle.std.proofs.Common.{◌-◌, vec_len, vec_capacity}
use Rattle.ab_types.specs.Ids.{type_of}
use Rattle.ab_store.specs.Trees.{cell_of}
use Rattle.ab_store.specs.Layout.{contents}
use Rattle.ab_store.proofs.Rebinding.{bind_cells, bind_sound, bind_reads, bind_typed, bind_terms, bind_marks}
use Rattle.ab_store.proofs.store.Store.bind.Goals as goal

pub invariant_of-self : goal.invariant_of-self
invariant_of-self c = λ k.
    let typed = rw (← k.self.view_is) at k.requires.typed in
    let held = rw (← k.self.view_is) at k.requires.held in
    rw k.push_reserved.ensures.items (bind_sound k.self.inside.entries.items k.self.inside.slots.items k.self.inside.trail.items k.args.cell k.args.term k.index_mut.result.now (vec_capacity k.self.inside.trail - vec_len k.self.inside.trail) (vec_capacity k.push_reserved.new.self - vec_len k.push_reserved.new.self) k.self.invariant k.index_mut.ensures.value (rw (← k.self.view_is) at k.requires.held) (rw (← k.self.view_is) at k.requires.unbound) typed.1.0
    (rw (← k.self.view_is) at k.requires.apart) (rw (← k.self.view_is) at k.requires.resolved) typed.0
    (type_of typed.0 (cell_of (contents k.self.inside.entries.items k.self.inside.slots.items k.self.inside.trail.items (vec_capacity k.self.inside.trail - vec_len k.self.inside.trail)) k.args.cell).ty) typed.1)

pub returns-clause-reads : goal.returns-clause-reads
returns-clause-reads c = λ k.
    rw (k.push_reserved.ensures.items, ← k.self.view_is) (λ types t h. bind_reads k.self.inside.entries.items k.self.inside.slots.items k.self.inside.trail.items k.args.cell k.args.term k.index_mut.result.now (vec_capacity k.self.inside.trail - vec_len k.self.inside.trail) (vec_capacity k.push_reserved.new.self - vec_len k.push_reserved.new.self) k.self.invariant k.index_mut.ensures.value (rw (← k.self.view_is) at k.requires.held)
    (rw (← k.self.view_is) at k.requires.unbound) (rw (← k.self.view_is) at k.requires.resolved) (rw (← k.self.view_is) at k.requires.typed).1.0 types t h)

pub returns-clause-cells : goal.returns-clause-cells
returns-clause-cells c = λ k.
    rw (← k.self.view_is) (bind_cells k.self.inside.entries.items k.self.inside.slots.items k.self.inside.trail.items k.args.cell k.args.term k.index_mut.result.now (vec_capacity k.self.inside.trail - vec_len k.self.inside.trail) (vec_capacity k.push_reserved.new.self - vec_len k.push_reserved.new.self) k.self.invariant k.index_mut.ensures.value (rw (← k.self.view_is) at k.requires.held))

pub returns-clause-typed : goal.returns-clause-typed
returns-clause-typed c = λ k.
    rw (k.push_reserved.ensures.items, ← k.self.view_is) (bind_typed k.self.inside.entries.items k.self.inside.slots.items k.self.inside.trail.items k.args.cell k.args.term k.index_mut.result.now (vec_capacity k.self.inside.trail - vec_len k.self.inside.trail) (vec_capacity k.push_reserved.new.self - vec_len k.push_reserved.new.self) k.self.invariant k.index_mut.ensures.value (rw (← k.self.view_is) at k.requires.held))

pub returns-clause-terms : goal.returns-clause-terms
returns-clause-terms c = λ k.
    rw (← k.self.view_is) (bind_terms k.self.inside.entries.items k.self.inside.slots.items k.self.inside.trail.items k.args.cell k.args.term k.index_mut.result.now (vec_capacity k.self.inside.trail - vec_len k.self.inside.trail) (vec_capacity k.push_reserved.new.self - vec_len k.push_reserved.new.self) k.self.invariant k.index_mut.ensures.value (rw (← k.self.view_is) at k.requires.held))

pub returns-clause-marks : goal.returns-clause-marks
returns-clause-marks c = λ k.
    rw (k.push_reserved.ensures.items, ← k.self.view_is) (bind_marks k.self.inside.entries.items k.self.inside.slots.items k.self.inside.trail.items k.args.cell k.args.term k.index_mut.result.now (vec_capacity k.self.inside.trail - vec_len k.self.inside.trail) (vec_capacity k.push_reserved.new.self - vec_len k.push_reserved.new.self) k.self.invariant k.index_mut.ensures.value (rw (← k.self.view_is) at k.requires.held))
