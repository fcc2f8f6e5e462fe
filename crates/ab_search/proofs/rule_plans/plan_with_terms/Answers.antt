use Rattle.ab_search_paths.proofs.MoreTerms.{got_on}
use Rattle.ab_search.proofs.rule_plans.plan_with_terms.Goals as goal

pub returns-in_err-terms-clause-got : goal.returns-in_err-terms-clause-got
returns-in_err-terms-clause-got g c = got_on c.args.world.now c.carry_terms.new.world c.raised_terms.new.world c.carry_terms.ensures.got c.raised_terms.ensures.got

pub returns-clause-got : goal.returns-clause-got
returns-clause-got g c = got_on c.args.world.now c.carry_terms.new.world c.raised_terms.new.world c.carry_terms.ensures.got c.raised_terms.ensures.got
