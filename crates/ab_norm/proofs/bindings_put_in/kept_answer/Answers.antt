use Rattle.ab_norm.proofs.PutIn.{put_none}
use Rattle.ab_norm.proofs.bindings_put_in.kept_answer.Goals as goal

pub returns-else-has_bound_cells : goal.returns-else-has_bound_cells
returns-else-has_bound_cells c = record {
  known = λ types memo. (c.requires.id, put_none types c.args.store.now c.args.count c.args.id (c.has_bound_cells.ensures.resolved c.if-has_bound_cells.false));
}
