use Rattle.ab_term.proofs.Contexts.{substitutes_commute}
use Rattle.ab_term.proofs.hereditary_substitution.substitutions_commute.Goals as goal

pub returns : goal.returns
returns g c = λ sg Ds Es G A B C t u v dv du d. substitutes_commute sg _ _ Ds Es G A B C t u v dv du d
