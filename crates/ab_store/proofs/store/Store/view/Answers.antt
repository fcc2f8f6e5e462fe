use Rattle.std.proofs.Common.{◌-◌, vec_len, vec_capacity, ap, sym, ◌∙◌}
use Rattle.ab_store.specs.Trees.{node_tree}
use Rattle.ab_store.specs.Reading.{node_reading}
use Rattle.ab_store.specs.Layout.{contents}
use Rattle.ab_store.proofs.Kept.{held, reads_at, tree_at, names_at, typed_at}
use Rattle.ab_store.proofs.store.Store.view.Goals as goal

pub returns-clause-reads : goal.returns-clause-reads
returns-clause-reads c =
    let r = (vec_capacity c.self.inside.trail - vec_len c.self.inside.trail) in
    rw (← c.self.view_is) (λ types G A typed is. reads_at c.self.inside.entries.items c.self.inside.slots.items c.self.inside.trail.items c.self.invariant r types G A c.args.id c.index.result.now (held c.self.inside.entries.items c.self.inside.slots.items c.self.inside.trail.items r c.args.id (rw (← c.self.view_is) at c.requires)) typed is
    ∙ ap (λ e. node_reading types (contents c.self.inside.entries.items c.self.inside.slots.items c.self.inside.trail.items r) e.node) (sym c.index.ensures))

pub returns-clause-tree : goal.returns-clause-tree
returns-clause-tree c =
    let r = (vec_capacity c.self.inside.trail - vec_len c.self.inside.trail) in
    rw (← c.self.view_is) (λ types. tree_at c.self.inside.entries.items c.self.inside.slots.items c.self.inside.trail.items c.self.invariant r types c.args.id c.index.result.now (held c.self.inside.entries.items c.self.inside.slots.items c.self.inside.trail.items r c.args.id (rw (← c.self.view_is) at c.requires))
    ∙ ap (λ e. node_tree types (contents c.self.inside.entries.items c.self.inside.slots.items c.self.inside.trail.items r) e.node) (sym c.index.ensures))

pub returns-clause-earlier : goal.returns-clause-earlier
returns-clause-earlier c =
    let r = (vec_capacity c.self.inside.trail - vec_len c.self.inside.trail) in
    rw (← c.self.view_is, c.index.ensures) (names_at c.self.inside.entries.items c.self.inside.slots.items c.self.inside.trail.items c.self.invariant r c.args.id c.index.result.now (held c.self.inside.entries.items c.self.inside.slots.items c.self.inside.trail.items r c.args.id (rw (← c.self.view_is) at c.requires)))

pub returns-clause-typed : goal.returns-clause-typed
returns-clause-typed c =
    let r = (vec_capacity c.self.inside.trail - vec_len c.self.inside.trail) in
    rw (← c.self.view_is, c.index.ensures) (λ types. typed_at c.self.inside.entries.items c.self.inside.slots.items c.self.inside.trail.items c.self.invariant r types c.args.id c.index.result.now (held c.self.inside.entries.items c.self.inside.slots.items c.self.inside.trail.items r c.args.id (rw (← c.self.view_is) at c.requires)))
