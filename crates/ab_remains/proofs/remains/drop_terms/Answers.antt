use Rattle.std.specs.Prelude.{All}
use Rattle.std.proofs.Common.{◌≡◌, inl, inr, length, refl, subst, arith}
use Rattle.ab_store.specs.Marks.{IsNoLater}
use Rattle.ab_store.proofs.Marking.{typed_at_mark}
use Rattle.ab_logic.specs.declared.world.World.{World}
use Rattle.ab_logic.specs.declared.additions.Added.{Added}
use Rattle.ab_remains.specs.RaisedMarks.{Reaches}
use Rattle.ab_remains.specs.NamedThings.{HoldsAddition}
use Rattle.ab_remains.specs.LeftWorlds.{IsLeft}
use Rattle.ab_remains.proofs.Leaving.{many_nodes, many_cells, left_unbound, front_extended, world_left, left_before, world_holds, additions_held, cells_needed}
use Rattle.ab_remains.proofs.remains.drop_terms.Given as given
use Rattle.ab_remains.proofs.remains.drop_terms.Goals as goal

pub mark_whole-whole-requires-clause-first : goal.mark_whole-whole-requires-clause-first
mark_whole-whole-requires-clause-first g c = (c.requires.before.3.marks c.args.first.now c.requires.before.2.mark).has

module _ (g : given.Over) (c : goal.After-cut_to g) where
  long_nodes : length c.cut_to.new.self.nodes ≡ c.mark_whole-whole.result.nodes
  long_nodes =
      many_nodes c.args.world.now.store c.cut_to.new.self c.mark_whole-whole.result c.mark_whole-whole.ensures.has c.requires.world.unbound
      c.cut_to.ensures.nodes c.cut_to.ensures.cells c.cut_to.ensures.bindings c.cut_to.ensures.room

  long_cells : length c.cut_to.new.self.cells ≡ c.mark_whole-whole.result.cells
  long_cells =
      many_cells c.args.world.now.store c.cut_to.new.self c.mark_whole-whole.result c.mark_whole-whole.ensures.has c.requires.world.unbound
      c.cut_to.ensures.nodes c.cut_to.ensures.cells c.cut_to.ensures.bindings c.cut_to.ensures.room

  abbrev after : World
  after = record { types = c.args.world.now.types; store = c.cut_to.new.self; additions = c.args.world.now.additions }

  reaches_raised : Reaches after c.mark_to_additions-raised.result
  reaches_raised = (omega (arith, long_nodes, c.mark_whole-whole.ensures.nodes), omega (arith, long_cells, c.mark_whole-whole.ensures.cells))

  reaches_named : Reaches after c.args.named
  reaches_named =
      let later = c.mark_to_additions-raised.ensures.later in
      (omega (arith, reaches_raised.0, later.1), omega (arith, reaches_raised.1, later.2))

  reaches_first : Reaches after c.args.first.now
  reaches_first = (omega (arith, reaches_named.0, c.requires.later.1), omega (arith, reaches_named.1, c.requires.later.2))

  left : IsLeft c.args.world.now after
  left =
      let w = c.args.world.now in
      let is = c.requires.world in
      let has = c.mark_whole-whole.ensures.has in
      let whole = c.mark_whole-whole.result in
      let before = c.requires.before in
      world_left w c.cut_to.new.self is (c.cut_to.ensures.typed w.types (typed_at_mark w.store whole has w.types is.typed))
      (left_unbound w.store c.cut_to.new.self whole has is.unbound c.cut_to.ensures.nodes c.cut_to.ensures.cells c.cut_to.ensures.bindings c.cut_to.ensures.room)
      (front_extended w.store c.cut_to.new.self whole has is.unbound c.cut_to.ensures.nodes c.cut_to.ensures.cells c.cut_to.ensures.bindings c.cut_to.ensures.room)
      (additions_held before.0 w after c.args.first.now c.args.additions before.1 before.2 before.3 reaches_first
      (c.mark_to_additions-raised.ensures.enough after reaches_raised (λ k d l u. world_holds w is k d u)))

  no_later : IsNoLater c.args.first.now c.mark_whole-whole.result
  no_later =
      let raised = c.mark_to_additions-raised.ensures in (
        omega (arith, c.mark_whole-whole.ensures.bindings, raised.bindings, c.requires.bindings),
        omega (arith, c.mark_whole-whole.ensures.nodes, raised.later.1, c.requires.later.1),
        omega (arith, c.mark_whole-whole.ensures.cells, raised.later.2, c.requires.later.2),
      )

pub returns-clause-left : goal.returns-clause-left
returns-clause-left g c = left g c

pub returns-clause-reaches : goal.returns-clause-reaches
returns-clause-reaches g c = reaches_named g c

pub returns-clause-before : goal.returns-clause-before
returns-clause-before g c = λ e is counted grows.
    left_before e c.args.world.now (after g c) c.args.first.now c.mark_whole-whole.result c.args.additions is counted grows (left g c) refl (reaches_first g c) c.mark_whole-whole.ensures.has (no_later g c) c.cut_to.ensures.marks

pub returns-clause-least : goal.returns-clause-least
returns-clause-least g c = λ v is same grows reaches.
    let w = c.args.world.now in
    let held : All (λ (a : Added). HoldsAddition v a.what) w.additions = subst (All (λ (a : Added). HoldsAddition v a.what)) same (world_holds v is) in
    let raised = c.mark_to_additions-raised.ensures.least v reaches (λ k d l u. held k d u) in (
      omega (arith, long_nodes g c, c.mark_whole-whole.ensures.nodes, raised.0),
      elim c.mark_whole-whole.ensures.least [
        | inl e ↦ omega (arith, long_cells g c, e, raised.1)
        | inr p ↦ omega (arith, long_cells g c, p.2, cells_needed v w p.0 c.mark_to_additions-raised.result.nodes is grows raised.0 p.1)
      ],
    )
