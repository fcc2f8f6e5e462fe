use Rattle.ab_search_paths.proofs.MoreTerms.{got_adds}
use Rattle.ab_search_paths.proofs.raising.raised_term.Goals as goal

pub returns-then-open-clause-got : goal.returns-then-open-clause-got
returns-then-open-clause-got c =
    let w = c.args.world.now in
    got_adds w c.over_constants.new.store c.requires.world (c.over_constants.ensures.adds w.types c.requires.world.typed c.requires.constants)
