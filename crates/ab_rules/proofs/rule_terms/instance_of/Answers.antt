use Rattle.ab_rules.proofs.Adding.{adds_terms}
use Rattle.ab_rules.proofs.rule_terms.instance_of.Goals as goal

pub returns-clause-adds : goal.returns-clause-adds
returns-clause-adds g c = adds_terms _ _ _ _ c.requires.world c.instantiate.ensures.adds
