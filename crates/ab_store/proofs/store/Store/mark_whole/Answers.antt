use Rattle.std.proofs.Common.{◌≡◌, ◌+◌, ◌<◌, length, get_or, arith, ap, sym, ◌∙◌, subst, Some, None}
use Rattle.std.proofs.lemmas.List.{length-map}
use Rattle.ab_store.specs.declared.store.NodeEntry.{NodeEntry}
use Rattle.ab_store.specs.declared.mark.Mark.{Mark}
use Rattle.ab_store.specs.Trees.{Contents}
use Rattle.ab_store.specs.Naming.{NodeNames, NodesNameEarlier}
use Rattle.ab_store.specs.Marks.{no_node, cell_in_node}
use Rattle.ab_store.proofs.Wholes.{IsRaised, node_there, cell_there, past_none, past_some, raised_has}
use Rattle.ab_store.proofs.store.Store.mark_whole.Goals as goal
use Rattle.ab_store.proofs.store.Store.mark_whole.Goals.{in-Some, in_default}

module _ (c : goal.Joined-cell) where
  here_too : get_or c.args.self.now.nodes c.loop-place.place no_node ≡ c.index.result.now.node
  here_too =
      subst (λ (s : Contents). get_or s.nodes c.loop-place.place no_node ≡ c.index.result.now.node) c.self.view_is
      (node_there c.self.inside.entries.items c.loop-place.place c.index.result.now (omega (arith, ap (λ (s : Contents). length s.nodes) c.self.view_is, length-map c.self.inside.entries.items (λ (e : NodeEntry). e.node), c.requires.nodes, c.loop-place-test.true)) c.index.ensures)

  names_too : NodeNames c.loop-place.place (length c.args.self.now.cells) c.index.result.now.node
  names_too =
      subst (NodeNames c.loop-place.place (length c.args.self.now.cells)) here_too
      ((subst (λ (s : Contents). NodesNameEarlier (length s.cells) s.nodes) c.self.view_is c.self.invariant.earlier) c.loop-place.place no_node (omega (arith, c.requires.nodes, c.loop-place-test.true)))

pub loop-place-preserved : goal.loop-place-preserved
loop-place-preserved c = elim c.match-cell.branch [
  | in-Some w ↦
      subst (λ (m : Mark). IsRaised c.args.self.now c.args.first.now c.args.second m (c.loop-place.place + 1)) (sym (w.mark-is ∙ w.mark_to_cell-mark.ensures.held (cell_there c.args.self.now c.loop-place.place c.index.result.now.node w.in-Some.cell (names_too c) (sym c.cell.ensures ∙ w.in-Some.is))))
      (past_some c.args.self.now c.args.first.now c.args.second c.loop-place.mark c.loop-place.place c.loop-place.invariant c.loop-place-test.true c.index.result.now.node (here_too c) w.in-Some.cell (sym c.cell.ensures ∙ w.in-Some.is) (names_too c))
  | in_default w ↦
      subst (λ (m : Mark). IsRaised c.args.self.now c.args.first.now c.args.second m (c.loop-place.place + 1)) (sym w.mark-is)
      (past_none c.args.self.now c.args.first.now c.args.second c.loop-place.mark c.loop-place.place c.loop-place.invariant c.loop-place-test.true c.index.result.now.node (here_too c) (sym c.cell.ensures ∙ w.in_default.is))
]

pub returns-clause-has : goal.returns-clause-has
returns-clause-has c =
    raised_has c.args.self.now c.args.first.now c.args.second c.loop-place.mark c.requires.first
    (subst (λ (s : Contents). NodesNameEarlier (length s.cells) s.nodes) c.self.view_is c.self.invariant.earlier) c.requires.later c.requires.bindings c.requires.nodes
    (subst (IsRaised c.args.self.now c.args.first.now c.args.second c.loop-place.mark) (omega (arith, c.loop-place.invariant.below, c.loop-place-test.false)) c.loop-place.invariant)
