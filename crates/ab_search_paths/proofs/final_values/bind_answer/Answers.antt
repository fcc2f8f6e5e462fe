use Rattle.ab_unify.proofs.Growth.{grows_on}
use Rattle.ab_search_paths.proofs.final_values.bind_answer.Goals as goal

pub returns-in_err-bind_cell-clause-grows : goal.returns-in_err-bind_cell-clause-grows
returns-in_err-bind_cell-clause-grows g c = let T = c.args.types.now in grows_on T T T c.args.store.now c.loop-value.store c.bind_cell.new.store c.loop-value.invariant.grows c.bind_cell.ensures.grows
