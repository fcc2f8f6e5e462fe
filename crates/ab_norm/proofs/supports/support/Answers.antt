use Rattle.std.proofs.Common.{sym, subst, map}
use Rattle.ab_term.specs.Names.{IsSupport}
use Rattle.ab_store.proofs.Putting.{resolved_reads}
use Rattle.ab_norm.specs.Nominals.{nominal_of}
use Rattle.ab_norm.proofs.Frame.{if_ok}
use Rattle.ab_norm.proofs.supports.support.Goals as goal

pub returns-then-branch-clause-reads : goal.returns-then-branch-clause-reads
returns-then-branch-clause-reads c =
    let types = c.args.types.now in
    if_ok c.names_of.result (λ list. subst (λ t. IsSupport t (map (nominal_of types) list.items)) (sym (resolved_reads types c.args.store.now c.args.id (c.in_ok-is_resolved.ensures.0 c.if-branch.true)))) c.names_of.ensures.reads

pub names_of-requires-2-clause-store : goal.names_of-requires-2-clause-store
names_of-requires-2-clause-store c = c.in_ok-plain.ensures.adds.typed

pub returns-clause-reads : goal.returns-clause-reads
returns-clause-reads c =
    let types = c.args.types.now in
    if_ok c.names_of-2.result (λ list. subst (λ t. IsSupport t (map (nominal_of types) list.items)) c.in_ok-plain.ensures.tree) c.names_of-2.ensures.reads
