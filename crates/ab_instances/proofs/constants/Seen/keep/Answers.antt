use Rattle.ab_instances.proofs.Noted.{term_kept_or_new}
use Rattle.ab_instances.proofs.constants.Seen.keep.Goals as goal

pub returns : goal.returns
returns c = λ t. term_kept_or_new c.args.term t _ _ (c.in_ok-insert.ensures.updates.0 t)
