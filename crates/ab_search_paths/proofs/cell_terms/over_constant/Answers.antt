use Rattle.ab_norm.proofs.Frame.{if_both, typed_from, typed_more}
use Rattle.ab_search_paths.proofs.CellTerms.{over_one}
use Rattle.ab_search_paths.proofs.cell_terms.over_constant.Goals as goal

pub returns-in_err-closed-clause-adds : goal.returns-in_err-closed-clause-adds
returns-in_err-closed-clause-adds c = λ types typed held. typed_from types c.args.store.now c.close.new.store c.in_err-closed.ensures.adds typed

pub returns-in_err-from_text-clause-adds : goal.returns-in_err-from_text-clause-adds
returns-in_err-from_text-clause-adds c = λ types typed held. typed_from types c.args.store.now c.close.new.store c.in_ok-closed.ensures.adds typed

pub returns-clause-adds : goal.returns-clause-adds
returns-clause-adds c = λ types typed held.
    let one = typed_from types c.args.store.now c.close.new.store c.in_ok-closed.ensures.adds typed in
    typed_more types c.args.store.now c.close.new.store c.lam.new.self one.before one.cells c.lam.ensures.before c.lam.ensures.cells (c.lam.ensures.typed types one.typed held)

pub returns-clause-typed : goal.returns-clause-typed
returns-clause-typed c = λ types A table typed held is.
    let closes = c.in_ok-closed.ensures.reads types (table, typed, held) in
    if_both c.lam.result (λ r there made. over_one types c.args.store.now c.close.new.store c.lam.new.self c.args.constant c.in_ok-from_text.field-0 A c.args.term c.in_ok-closed.closed r is closes (made types) there) c.lam.ensures.held c.lam.ensures.tree
