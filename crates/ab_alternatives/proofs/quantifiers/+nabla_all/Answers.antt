use Rattle.ab_norm.proofs.Frame.{typed_on}
use Rattle.ab_alternatives.proofs.quantifiers.+nabla_all.Goals as goal

pub returns-in_ok-hint-in-len1-up-names-clause-adds :
    goal.returns-in_ok-hint-in-len1-up-names-clause-adds
returns-in_ok-hint-in-len1-up-names-clause-adds t c =
    typed_on c.args.types.now c.args.store.now c.nabla_all.new.store c.quantifier_over.new.store c.nabla_all.ensures.adds c.quantifier_over.ensures.adds
