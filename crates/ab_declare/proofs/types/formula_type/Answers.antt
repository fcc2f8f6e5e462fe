use Rattle.ab_declare.proofs.Adding.{found_kinds, found_constants}
use Rattle.ab_declare.proofs.types.formula_type.Goals as goal

pub returns-in-Ok-clause-kinds : goal.returns-in-Ok-clause-kinds
returns-in-Ok-clause-kinds c = found_kinds _ _ _ c.in-Ok.ensures.entries

pub returns-in-Ok-clause-constants : goal.returns-in-Ok-clause-constants
returns-in-Ok-clause-constants c = found_constants _ _ _ c.in-Ok.ensures.entries
