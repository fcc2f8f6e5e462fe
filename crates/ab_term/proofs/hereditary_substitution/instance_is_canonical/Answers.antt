use Rattle.ab_term.proofs.Preservation.{instance_typed, instance_by_all_typed}
use Rattle.ab_term.proofs.Contexts.{substitutes_typed}
use Rattle.ab_term.proofs.hereditary_substitution.instance_is_canonical.Goals as goal

pub returns-clause-one : goal.returns-clause-one
returns-clause-one g c = λ sg G A B t u d e. instance_typed sg d e

pub returns-clause-several : goal.returns-clause-several
returns-clause-several g c = λ sg G A B t us d e. instance_by_all_typed sg us d e

pub returns-clause-under_binders : goal.returns-clause-under_binders
returns-clause-under_binders g c = λ sg Ds G A B t u d e. substitutes_typed sg _ _ Ds G G A B B t u d e
