use Rattle.ab_norm.proofs.Frame.{if_ok, typed_more}
use Rattle.ab_patterns.proofs.GivenNames.{applied_reads}
use Rattle.ab_patterns.proofs.applied_cells.apply_cell.Goals as goal

pub returns-clause-reads : goal.returns-clause-reads
returns-clause-reads c =
    let types = c.args.types.now in
    if_ok c.spine.result (λ r made.
    applied_reads types c.args.store.now c.give_names.new.store c.spine.new.self c.args.cell c.cell_type-ty.result c.args.names.now c.new-args.result.items c.give_names.new.into.items r
    c.in_ok-give_names.ensures.adds.cells c.cell_type-ty.ensures.ty c.new-args.ensures.items c.in_ok-give_names.ensures.reads (made types)) c.spine.ensures.tree

pub returns-clause-adds : goal.returns-clause-adds
returns-clause-adds c =
    let types = c.args.types.now in
    let adds = c.in_ok-give_names.ensures.adds in
    typed_more types c.args.store.now c.give_names.new.store c.spine.new.self adds.before adds.cells c.spine.ensures.before c.spine.ensures.cells (c.spine.ensures.typed types adds.typed tt)
