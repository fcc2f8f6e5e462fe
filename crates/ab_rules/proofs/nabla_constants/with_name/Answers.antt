use Rattle.ab_rules.proofs.Adding.{adds_on}
use Rattle.ab_rules.proofs.nabla_constants.with_name.Goals as goal

pub returns-clause-adds : goal.returns-clause-adds
returns-clause-adds g c = adds_on _ _ _ c.name_term.ensures.adds c.instance_of.ensures.adds
