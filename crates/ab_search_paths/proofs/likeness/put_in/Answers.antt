use Rattle.ab_search_paths.proofs.MoreTerms.{got_back}
use Rattle.ab_search_paths.proofs.likeness.put_in.Goals as goal

pub returns-clause-got : goal.returns-clause-got
returns-clause-got g c =
    let x = c.put_in_bound-made.new.world in
    let e = c.put_in_bound-made.ensures in
    let m = c.mark-mark.ensures in
    let r = c.rewind.ensures in
    got_back c.args.world.now x c.requires.world e.types e.additions e.grows c.mark-mark.result m.has m.bindings c.rewind.new.self r.nodes r.cells r.bindings (r.typed x.types e.grows.typed) r.marks
