use Rattle.ab_term.proofs.PastHints.{typed_past_hints, support_past_hints, variables_past_hints}
use Rattle.ab_term.proofs.hints.facts_respect_equality_past_hints.Goals as goal

pub returns-clause-types : goal.returns-clause-types
returns-clause-types g c = λ sg G A t u e d. typed_past_hints sg t u e d

pub returns-clause-names : goal.returns-clause-names
returns-clause-names g c = λ t u e. support_past_hints t u e

pub returns-clause-free_variables : goal.returns-clause-free_variables
returns-clause-free_variables g c = λ t u e. variables_past_hints t u e
