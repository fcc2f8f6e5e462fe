use Rattle.ab_unify.proofs.Growth.{grows_on, grows_terms}
use Rattle.ab_search_paths.proofs.EntriesKept.{entries_grown}
use Rattle.ab_search_paths.proofs.answer_paths.with_values.Goals as goal

pub resolved_path-requires-clause-entries : goal.resolved_path-requires-clause-entries
resolved_path-requires-clause-entries g c = entries_grown c.args.types.now c.args.store.now c.bind_values.new.store c.bind_values.ensures.grows c.args.entries.items c.requires.entries

pub returns-clause-grows : goal.returns-clause-grows
returns-clause-grows g c =
    let T = c.args.types.now in
    let V = c.bind_values.new.store in
    let X = c.resolved_path.new.store in
    grows_on T T T c.args.store.now V X c.bind_values.ensures.grows (grows_terms T V X c.resolved_path.ensures.adds)
