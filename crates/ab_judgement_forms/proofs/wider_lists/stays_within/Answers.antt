use Rattle.ab_norm.proofs.Frame.{typed_on}
use Rattle.ab_judgement_forms.proofs.wider_lists.stays_within.Goals as goal

pub returns-in_err-second-clause-adds : goal.returns-in_err-second-clause-adds
returns-in_err-second-clause-adds c = typed_on c.args.types.now c.args.store.now c.between.new.store c.between-2.new.store c.in_ok-first.ensures.adds c.in_err-second.ensures.adds

pub returns-clause-adds : goal.returns-clause-adds
returns-clause-adds c =
    let T = c.args.types.now in
    let S = c.args.store.now in
    typed_on T S c.between-2.new.store c.between-3.new.store (typed_on T S c.between.new.store c.between-2.new.store c.in_ok-first.ensures.adds c.in_ok-second.ensures.adds) c.between-3.ensures.adds
