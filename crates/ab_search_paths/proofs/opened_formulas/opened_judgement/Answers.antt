use Rattle.ab_search_paths.proofs.MoreTerms.{got}
use Rattle.ab_search_paths.proofs.opened_formulas.opened_judgement.Goals as goal

pub returns-in-Compound-clause-got : goal.returns-in-Compound-clause-got
returns-in-Compound-clause-got c = got c.args.world.now c.open_goal.new.world c.requires.world c.open_goal.ensures.grows c.open_goal.ensures.types c.open_goal.ensures.additions
