use Rattle.ab_search_paths.proofs.MoreTerms.{got_adds, got_on}
use Rattle.ab_search.proofs.opened_hypotheses.last_variable_given.Goals as goal

pub returns-in_err-term-clause-got : goal.returns-in_err-term-clause-got
returns-in_err-term-clause-got c = got_adds c.args.world.now c.cell_given.new.store c.requires.world c.cell_given.ensures.adds

pub returns-clause-got : goal.returns-clause-got
returns-clause-got c =
    let first = got_adds c.args.world.now c.cell_given.new.store c.requires.world c.cell_given.ensures.adds in
    got_on c.args.world.now (record { types = c.args.world.now.types; store = c.cell_given.new.store; additions = c.args.world.now.additions }) c.permuted_term.new.world first c.permuted_term.ensures.got

pub permuted_term-requires-clause-world : goal.permuted_term-requires-clause-world
permuted_term-requires-clause-world c = (got_adds c.args.world.now c.cell_given.new.store c.requires.world c.cell_given.ensures.adds).grows.world
