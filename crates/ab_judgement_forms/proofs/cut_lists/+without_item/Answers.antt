use Rattle.ab_norm.proofs.Frame.{typed_on}
use Rattle.ab_judgement_forms.proofs.cut_lists.+without_item.Goals as goal

pub returns-in_err-longer-in-Some-2-clause-adds : goal.returns-in_err-longer-in-Some-2-clause-adds
returns-in_err-longer-in-Some-2-clause-adds t c =
    typed_on c.args.types.now c.args.store.now c.without_item.new.store c.between.new.store c.in_ok-without_item.ensures.adds c.in_err-longer-in-Some-2.ensures.adds

pub returns-in_ok-longer-in-Some-2-clause-adds : goal.returns-in_ok-longer-in-Some-2-clause-adds
returns-in_ok-longer-in-Some-2-clause-adds t c =
    typed_on c.args.types.now c.args.store.now c.without_item.new.store c.between.new.store c.in_ok-without_item.ensures.adds c.in_ok-longer-in-Some-2.ensures.adds
