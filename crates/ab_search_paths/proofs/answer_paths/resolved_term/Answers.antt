use Rattle.std.proofs.Common.{[]}
use Rattle.ab_norm.proofs.Frame.{if_ok, typed_from}
use Rattle.ab_search_paths.proofs.EntriesKept.{of_store, in_store}
use Rattle.ab_search_paths.proofs.answer_paths.resolved_term.Goals as goal

pub returns-clause-is : goal.returns-clause-is
returns-clause-is g c =
    let T = c.args.types.now in
    let S = c.args.store.now in
    if_ok c.copy_resolved.result (λ r made A h. of_store T c.copy_resolved.new.store r A (made [] A (in_store T S c.args.term A h))) c.copy_resolved.ensures.term

pub returns-clause-adds : goal.returns-clause-adds
returns-clause-adds g c = typed_from c.args.types.now c.args.store.now c.copy_resolved.new.store c.copy_resolved.ensures.adds c.requires.store
