use Rattle.ab_norm.proofs.Frame.{typed_from, typed_on}
use Rattle.ab_search_paths.proofs.part_names.put_under.Goals as goal

pub returns-clause-adds : goal.returns-clause-adds
returns-clause-adds g c =
    let T = c.args.types.now in
    let S1 = c.under_names.new.store in
    let first = c.in_ok-abstraction.ensures.adds in
    typed_on T c.args.store.now S1 c.instantiate.new.store first (typed_from T S1 c.instantiate.new.store c.instantiate.ensures.adds first.typed)
