use Rattle.ab_inference.proofs.Freed.{kept_or_new}
use Rattle.ab_inference.proofs.prop_free.Free.keep.Goals as goal

pub returns : goal.returns
returns c = λ t. kept_or_new c.args.ty t _ _ (c.in_ok-insert.ensures.updates.0 t)
