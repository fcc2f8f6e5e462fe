use Rattle.ab_term.proofs.Stands.{support-shift, variables-shift, support-instance, variables-instance}
use Rattle.ab_term.proofs.Reached.{instance_below}
use Rattle.ab_term.proofs.hereditary_substitution.instance_has_no_more.Goals as goal

pub returns-clause-shifted_names : goal.returns-clause-shifted_names
returns-clause-shifted_names g c = λ k t. support-shift k t

pub returns-clause-shifted_variables : goal.returns-clause-shifted_variables
returns-clause-shifted_variables g c = λ k t. variables-shift k t

pub returns-clause-names : goal.returns-clause-names
returns-clause-names g c = λ t u a m. support-instance t u a m

pub returns-clause-free_variables : goal.returns-clause-free_variables
returns-clause-free_variables g c = λ t u y m. variables-instance t u y m

pub returns-clause-reach : goal.returns-clause-reach
returns-clause-reach g c = λ t u n l m. instance_below n t u l m
