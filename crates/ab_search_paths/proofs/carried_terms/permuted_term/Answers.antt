use Rattle.ab_search_paths.proofs.MoreTerms.{got_adds}
use Rattle.ab_search_paths.proofs.carried_terms.permuted_term.Goals as goal

pub returns-clause-got : goal.returns-clause-got
returns-clause-got c = got_adds c.args.world.now c.permute.new.store c.requires.world c.permute.ensures.adds
