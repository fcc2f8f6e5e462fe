use Rattle.ab_rules.proofs.Adding.{adds_on}
use Rattle.ab_rules.proofs.rule_terms.variable_given.Goals as goal

pub returns-in_err-args-clause-adds : goal.returns-in_err-args-clause-adds
returns-in_err-args-clause-adds g c = adds_on _ _ _ c.cell_term.ensures.adds c.name_terms.ensures.adds

pub returns-clause-adds : goal.returns-clause-adds
returns-clause-adds g c = adds_on _ _ _ (adds_on _ _ _ c.cell_term.ensures.adds c.name_terms.ensures.adds) c.instance_of.ensures.adds
