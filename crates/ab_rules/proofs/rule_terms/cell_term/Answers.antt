use Rattle.ab_rules.proofs.Adding.{adds_typed}
use Rattle.ab_rules.proofs.rule_terms.cell_term.Goals as goal

pub returns-clause-adds : goal.returns-clause-adds
returns-clause-adds c = adds_typed _ _ _ _ c.requires.world c.eta.ensures.adds
