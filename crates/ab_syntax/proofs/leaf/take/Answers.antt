use Rattle.ab_syntax.proofs.Leaves.{taken_or_not}
use Rattle.ab_syntax.proofs.leaf.take.Goals as goal

pub returns : goal.returns
returns g c = rw c.ok_or.ensures.value (taken_or_not (g.S.Shown.leaf c.args.form) c.args.text.now c.args.here.now c.take_if.new.here c.in_ok-take_if.field-0 c.in_ok-take_if.ensures)
