use Rattle.std.proofs.Common.{◌∙◌}
use Rattle.ab_instances.proofs.Bound.{bound_reads, still_bindable}
use Rattle.ab_instances.proofs.replacements.bind_to.Goals as goal

pub bind_all-requires-clause-fit : goal.bind_all-requires-clause-fit
bind_all-requires-clause-fit g c =
    still_bindable c.args.types.now c.args.store.now c.reserve.new.self c.in_ok-reserve.ensures.nodes c.in_ok-reserve.ensures.cells c.args.cells.now c.args.terms.now c.requires.fit

pub returns-clause-reads : goal.returns-clause-reads
returns-clause-reads g c =
    bound_reads c.args.types.now c.args.store.now c.bind_all.new.store (c.bind_all.ensures.nodes ∙ c.in_ok-reserve.ensures.nodes) (c.bind_all.ensures.cells ∙ c.in_ok-reserve.ensures.cells) c.args.cells.now c.args.terms.now c.requires.fit
    c.bind_all.ensures.bindings
