use Rattle.ab_norm.proofs.Remembered.{pair_kept_or_new}
use Rattle.ab_norm.proofs.memo.Agreed.keep.Goals as goal

pub returns : goal.returns
returns c = λ x y. pair_kept_or_new c.args.a c.args.b x y _ _ (c.in_ok-insert.ensures.updates.0 (x, y))
