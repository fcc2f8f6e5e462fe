use Rattle.ab_norm.proofs.Frame.{adds_on}
use Rattle.ab_sequents.proofs.size_marks.+mark_consequent.Goals as goal

pub returns-clause-adds : goal.returns-clause-adds
returns-clause-adds t c = adds_on c.args.store.now c.mark_consequent.new.store c.arrow.new.store c.in_ok-made.ensures.adds c.arrow.ensures.adds
