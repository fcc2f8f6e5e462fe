use Rattle.std.proofs.Common.{sym, ◌∙◌, ap, subst}
use Rattle.ab_norm.proofs.Frame.{if_ok}
use Rattle.ab_instances.specs.CellBindings.{bound_to, CanBeBound}
use Rattle.ab_instances.proofs.Bound.{still_bindable, copied_reads}
use Rattle.ab_instances.proofs.cell_bindings.copy_with.Goals as goal

pub bind_all-requires-clause-fit : goal.bind_all-requires-clause-fit
bind_all-requires-clause-fit g c =
    subst (λ l. CanBeBound c.args.types.now c.reserve.new.self l c.args.terms.now) (sym c.as_slice-cells.ensures)
    (still_bindable c.args.types.now c.args.store.now c.reserve.new.self c.in_ok-reserve.ensures.nodes c.in_ok-reserve.ensures.cells c.args.clause.now.variables c.args.terms.now c.requires.fit)

pub returns-clause-head : goal.returns-clause-head
returns-clause-head g c =
    if_ok c.copy_both-copied.result (λ copied h.
    copied_reads c.args.types.now c.args.store.now c.bind_all.new.store (c.bind_all.ensures.nodes ∙ c.in_ok-reserve.ensures.nodes) (c.bind_all.ensures.cells ∙ c.in_ok-reserve.ensures.cells) c.args.clause.now.variables c.args.terms.now c.requires.fit
    (c.bind_all.ensures.bindings ∙ ap (λ l. bound_to l c.args.terms.now) c.as_slice-cells.ensures)
    c.copy_both-copied.new.store c.rewind.new.self c.args.clause.now.head copied.head c.rewind.ensures.nodes c.rewind.ensures.cells c.requires.head h.0 h.1) c.copy_both-copied.ensures.head

pub returns-clause-body : goal.returns-clause-body
returns-clause-body g c =
    if_ok c.copy_both-copied.result (λ copied h.
    copied_reads c.args.types.now c.args.store.now c.bind_all.new.store (c.bind_all.ensures.nodes ∙ c.in_ok-reserve.ensures.nodes) (c.bind_all.ensures.cells ∙ c.in_ok-reserve.ensures.cells) c.args.clause.now.variables c.args.terms.now c.requires.fit
    (c.bind_all.ensures.bindings ∙ ap (λ l. bound_to l c.args.terms.now) c.as_slice-cells.ensures)
    c.copy_both-copied.new.store c.rewind.new.self c.args.clause.now.body copied.body c.rewind.ensures.nodes c.rewind.ensures.cells c.requires.body h.0 h.1) c.copy_both-copied.ensures.body
