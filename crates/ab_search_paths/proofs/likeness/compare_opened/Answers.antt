use Rattle.ab_search_paths.proofs.MoreTerms.{got_on}
use Rattle.ab_search_paths.proofs.likeness.compare_opened.Goals as goal

pub returns-in_err-second-clause-got : goal.returns-in_err-second-clause-got
returns-in_err-second-clause-got c =
    got_on c.args.world.now c.open_formula.new.world c.open_formula-2.new.world c.open_formula.ensures.got c.open_formula-2.ensures.got

pub returns-clause-got : goal.returns-clause-got
returns-clause-got c =
    got_on c.args.world.now c.open_formula.new.world c.open_formula-2.new.world c.open_formula.ensures.got c.open_formula-2.ensures.got
