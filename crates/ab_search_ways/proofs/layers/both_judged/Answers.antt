use Rattle.ab_norm.proofs.Frame.{typed_on}
use Rattle.ab_search_ways.proofs.layers.both_judged.Goals as goal

pub returns-in_err-right-clause-adds : goal.returns-in_err-right-clause-adds
returns-in_err-right-clause-adds c = typed_on c.args.types.now c.args.store.now c.unmarked_judgement.new.store c.unmarked_judgement-2.new.store c.unmarked_judgement.ensures.adds c.unmarked_judgement-2.ensures.adds

pub returns-clause-adds : goal.returns-clause-adds
returns-clause-adds c =
    let T = c.args.types.now in
    typed_on T c.args.store.now c.unmarked_judgement-2.new.store c.between.new.store (typed_on T c.args.store.now c.unmarked_judgement.new.store c.unmarked_judgement-2.new.store c.unmarked_judgement.ensures.adds c.unmarked_judgement-2.ensures.adds) c.between.ensures.adds
