use Rattle.ab_norm.proofs.Frame.{typed_on}
use Rattle.ab_judgement_forms.proofs.opened_goals.marked_judgement.Goals as goal

pub returns-clause-adds : goal.returns-clause-adds
returns-clause-adds c = typed_on c.args.types.now c.args.store.now c.between.new.store c.with_mark.new.store c.in_ok-judgement.ensures.adds c.with_mark.ensures.adds
