use Rattle.ab_patterns.proofs.Kept.{kept_or_new}
use Rattle.ab_patterns.proofs.visited_nodes.Seen.keep.Goals as goal

pub returns : goal.returns
returns c = λ t k. kept_or_new c.args.term t c.args.depth k _ _ (c.in_ok-insert.ensures.updates.0 (t, k))
