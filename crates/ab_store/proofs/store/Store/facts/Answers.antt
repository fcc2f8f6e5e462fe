use Rattle.std.proofs.Common.{◌-◌, ◌≤◌, vec_len, vec_capacity, sym, subst, arith}
use Rattle.ab_term.specs.Reach.{reach}
use Rattle.ab_store.specs.declared.store.NodeEntry.{NodeEntry}
use Rattle.ab_store.specs.Trees.{tree_of}
use Rattle.ab_store.specs.Reading.{reading}
use Rattle.ab_store.specs.Layout.{HoldOf, contents}
use Rattle.ab_store.proofs.Kept.{held, reach_at}
use Rattle.ab_store.proofs.store.Store.facts.Goals as goal

pub returns-clause-tree : goal.returns-clause-tree
returns-clause-tree c =
    let r = (vec_capacity c.self.inside.trail - vec_len c.self.inside.trail) in
    rw (← c.self.view_is) (λ types. subst (λ (e : NodeEntry). HoldOf e.facts (tree_of types (contents c.self.inside.entries.items c.self.inside.slots.items c.self.inside.trail.items r) c.args.id)) (sym c.index.ensures)
    (c.self.invariant.facts types c.args.id c.index.result.now (held c.self.inside.entries.items c.self.inside.slots.items c.self.inside.trail.items r c.args.id (rw (← c.self.view_is) at c.requires))))

pub returns-clause-reads : goal.returns-clause-reads
returns-clause-reads c =
    let r = (vec_capacity c.self.inside.trail - vec_len c.self.inside.trail) in
    rw (← c.self.view_is) (λ types. subst (λ (e : NodeEntry). reach (reading types (contents c.self.inside.entries.items c.self.inside.slots.items c.self.inside.trail.items r) c.args.id) ≤ e.facts.reach) (sym c.index.ensures)
    (omega (
      arith,
      reach_at c.self.inside.entries.items c.self.inside.slots.items c.self.inside.trail.items c.self.invariant r types c.args.id,
      (c.self.invariant.facts types c.args.id c.index.result.now (held c.self.inside.entries.items c.self.inside.slots.items c.self.inside.trail.items r c.args.id (rw (← c.self.view_is) at c.requires))).reach,
    )))
