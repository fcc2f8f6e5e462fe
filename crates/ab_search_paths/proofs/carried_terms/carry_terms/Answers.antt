use Rattle.ab_logic.proofs.Growing.{still_held}
use Rattle.ab_search_paths.proofs.MoreTerms.{got_on}
use Rattle.ab_search_paths.proofs.carried_terms.carry_terms.Goals as goal

pub what_is_sent-requires-clause-goal : goal.what_is_sent-requires-clause-goal
what_is_sent-requires-clause-goal g c = still_held c.args.world.now c.put_in.new.world c.in_ok-here.ensures.got.grows c.args.goal.now c.requires.goal

pub returns-clause-got : goal.returns-clause-got
returns-clause-got g c = got_on c.args.world.now c.put_in.new.world c.all_permuted.new.world c.in_ok-here.ensures.got c.all_permuted.ensures.got
