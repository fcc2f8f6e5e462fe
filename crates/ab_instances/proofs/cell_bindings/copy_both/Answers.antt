use Rattle.ab_norm.proofs.Frame.{adds_on}
use Rattle.ab_instances.proofs.cell_bindings.copy_both.Goals as goal

pub returns-in_err-body-clause-adds : goal.returns-in_err-body-clause-adds
returns-in_err-body-clause-adds g c = adds_on c.args.store.now c.copy_resolved.new.store c.copy_resolved-2.new.store c.in_ok-head.ensures.adds c.in_err-body.ensures.adds

pub returns-clause-adds : goal.returns-clause-adds
returns-clause-adds g c = adds_on c.args.store.now c.copy_resolved.new.store c.copy_resolved-2.new.store c.in_ok-head.ensures.adds c.in_ok-body.ensures.adds
