use Rattle.std.proofs.Common.{◌∙◌}
use Rattle.ab_logic.proofs.Growing.{grows_on}
use Rattle.ab_rules.proofs.rule_terms.raised_variable.Goals as goal

pub returns-clause-grows : goal.returns-clause-grows
returns-clause-grows c = grows_on _ _ _ c.type_over.ensures.grows c.new_cell.ensures.grows

pub returns-clause-declared : goal.returns-clause-declared
returns-clause-declared c = c.new_cell.ensures.declared ∙ c.type_over.ensures.declared
