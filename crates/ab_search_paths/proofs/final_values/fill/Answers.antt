use Rattle.ab_unify.proofs.Growth.{grows_on, grows_terms}
use Rattle.ab_search_paths.proofs.final_values.fill.Goals as goal

pub returns-clause-grows : goal.returns-clause-grows
returns-clause-grows g c = let T = c.args.types.now in grows_on T T T c.args.store.now c.eta.new.store c.bind_cell.new.store (grows_terms T c.args.store.now c.eta.new.store c.eta.ensures.adds) c.bind_cell.ensures.grows
