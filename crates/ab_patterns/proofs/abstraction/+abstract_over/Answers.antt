use Rattle.std.proofs.Common.{arith}
use Rattle.ab_norm.specs.ab_types.specs.Ids.{type_of}
use Rattle.ab_norm.proofs.Frame.{if_ok, typed_on, typed_from, typed_more}
use Rattle.ab_patterns.proofs.Among.{abstracted_reads}
use Rattle.ab_patterns.proofs.ToldApart.{told_by}
use Rattle.ab_patterns.proofs.abstraction.+abstract_over.Goals as goal

pub returns-in_err-closed-in-Arrow-clause-adds : goal.returns-in_err-closed-in-Arrow-clause-adds
returns-in_err-closed-in-Arrow-clause-adds t c =
    let first = c.in_ok-inner-in-Arrow.ensures.adds in
    typed_on c.args.types.now c.args.store.now c.abstract_over.new.store c.close.new.store first (typed_from c.args.types.now c.abstract_over.new.store c.close.new.store c.in_err-closed-in-Arrow.ensures.adds first.typed)

pub returns-in_err-from_text-in-Arrow-clause-adds :
    goal.returns-in_err-from_text-in-Arrow-clause-adds
returns-in_err-from_text-in-Arrow-clause-adds t c =
    let first = c.in_ok-inner-in-Arrow.ensures.adds in
    typed_on c.args.types.now c.args.store.now c.abstract_over.new.store c.close.new.store first (typed_from c.args.types.now c.abstract_over.new.store c.close.new.store c.in_ok-closed-in-Arrow.ensures.adds first.typed)

pub returns-in_ok-from_text-in-Arrow-clause-adds :
    goal.returns-in_ok-from_text-in-Arrow-clause-adds
returns-in_ok-from_text-in-Arrow-clause-adds t c =
    let types = c.args.types.now in
    let first = c.in_ok-inner-in-Arrow.ensures.adds in
    let both = typed_on types c.args.store.now c.abstract_over.new.store c.close.new.store first (typed_from types c.abstract_over.new.store c.close.new.store c.in_ok-closed-in-Arrow.ensures.adds first.typed) in
    typed_more types c.args.store.now c.close.new.store c.lam.new.self both.before both.cells c.lam.ensures.before c.lam.ensures.cells (c.lam.ensures.typed types both.typed c.in-Arrow.ensures.held.0)

pub returns-in_ok-from_text-in-Arrow-clause-reads :
    goal.returns-in_ok-from_text-in-Arrow-clause-reads
returns-in_ok-from_text-in-Arrow-clause-reads t c =
    let types = c.args.types.now in
    if_ok c.lam.result (λ r made.
    abstracted_reads types c.args.store.now c.abstract_over.new.store c.close.new.store c.lam.new.self (type_of types c.in-Arrow.from) (type_of types c.in-Arrow.to) (type_of types c.args.ty)
    c.in_ok-from_text-in-Arrow.field-0 c.args.names.now _ c.args.term c.in_ok-inner-in-Arrow.inner c.in_ok-closed-in-Arrow.closed r c.in-len1-up.len_at_least c.in-Arrow.ensures.reads c.in_ok-inner-in-Arrow.ensures.adds.cells
    c.in_ok-inner-in-Arrow.ensures.reads
    (c.in_ok-closed-in-Arrow.ensures.reads types
    (told_by types c.abstract_over.new.store _ c.len.ensures.table c.in_ok-inner-in-Arrow.ensures.adds.typed (c.requires.names 0 _ (omega (arith, c.in-len1-up.len_at_least)))))
    c.in_ok-from_text-in-Arrow.ensures (made types)) c.lam.ensures.tree
