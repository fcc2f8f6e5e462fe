use Rattle.ab_term.proofs.Stands.{support-expansion_of, variables-expansion_of}
use Rattle.ab_term.proofs.eta_forms.expansion_has_no_more.Goals as goal

pub returns-clause-names : goal.returns-clause-names
returns-clause-names g c = λ A x h ts. support-expansion_of x A h ts

pub returns-clause-free_variables : goal.returns-clause-free_variables
returns-clause-free_variables g c = λ A x h ts. variables-expansion_of x A h ts
