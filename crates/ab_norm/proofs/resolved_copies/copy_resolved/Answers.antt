use Rattle.std.proofs.Common.{sym, ◌∙◌, subst}
use Rattle.ab_term.specs.Typing.{HasType}
use Rattle.ab_store.specs.ab_types.specs.Entries.{signature}
use Rattle.ab_store.proofs.Putting.{resolved_reads, read_typed}
use Rattle.ab_norm.proofs.Frame.{if_both, adds_none}
use Rattle.ab_norm.proofs.resolved_copies.copy_resolved.Goals as goal

pub returns-then-branch-clause-adds : goal.returns-then-branch-clause-adds
returns-then-branch-clause-adds g c = adds_none c.args.store.now

pub returns-then-branch-clause-tree : goal.returns-then-branch-clause-tree
returns-then-branch-clause-tree g c = sym (resolved_reads c.args.types.now c.args.store.now c.args.id (c.in_ok-is_resolved.ensures.0 c.if-branch.true))

pub returns-clause-reads : goal.returns-clause-reads
returns-clause-reads g c =
    if_both c.fill.result (λ r tree clear. resolved_reads c.args.types.now c.fill.new.store r clear ∙ tree) c.fill.ensures.tree c.fill.ensures.resolved

pub returns-clause-same : goal.returns-clause-same
returns-clause-same g c = λ clear. absurd (let e = sym c.if-branch.false ∙ c.in_ok-is_resolved.ensures.1 clear in cc)

pub returns-clause-term : goal.returns-clause-term
returns-clause-term g c =
    if_both c.fill.result (λ r held tree G A d.
    (held, subst (λ t. HasType (signature c.args.types.now) G t A) (sym tree) (read_typed c.args.types.now c.args.store.now c.requires.store G c.args.id A d.1))) c.fill.ensures.held c.fill.ensures.tree

pub returns-clause-typed : goal.returns-clause-typed
returns-clause-typed g c = c.fill.ensures.adds.typed c.args.types.now c.requires.store
