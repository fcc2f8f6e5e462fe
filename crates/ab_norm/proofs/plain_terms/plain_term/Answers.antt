use Rattle.std.proofs.Common.{◌∙◌, sym}
use Rattle.ab_store.proofs.Putting.{resolved_reads}
use Rattle.ab_norm.proofs.Frame.{if_ok}
use Rattle.ab_norm.proofs.Unshared.{same_cells_read, same_cells_held}
use Rattle.ab_norm.proofs.plain_terms.plain_term.Goals as goal

pub returns-then-branch-clause-reads : goal.returns-then-branch-clause-reads
returns-then-branch-clause-reads c =
    if_ok c.unfold.result (λ tree is. is c.args.types.now ∙ sym (resolved_reads c.args.types.now c.args.store.now c.args.id (c.in_ok-is_resolved.ensures.0 c.if-branch.true))) c.unfold.ensures.reads

pub returns-then-branch-clause-held : goal.returns-then-branch-clause-held
returns-then-branch-clause-held c = if_ok c.unfold.result (λ tree held. held c.args.types.now c.requires.store) c.unfold.ensures.held

pub returns-clause-reads : goal.returns-clause-reads
returns-clause-reads c =
    let types = c.args.types.now in
    let cells = c.in_ok-plain.ensures.adds.cells ∙ c.in_ok-apart.ensures.same.cells in
    if_ok c.unfold-2.result (λ tree is. sym (same_cells_read types c.args.store.now c.carry_resolved.new.apart cells tree) ∙ is types ∙ c.in_ok-plain.ensures.tree) c.unfold-2.ensures.reads

pub returns-clause-held : goal.returns-clause-held
returns-clause-held c =
    let types = c.args.types.now in
    let cells = c.in_ok-plain.ensures.adds.cells ∙ c.in_ok-apart.ensures.same.cells in
    if_ok c.unfold-2.result (λ tree held. same_cells_held types c.args.store.now c.carry_resolved.new.apart cells tree (held types c.in_ok-plain.ensures.adds.typed)) c.unfold-2.ensures.held
