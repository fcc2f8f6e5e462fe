use Rattle.ab_term.proofs.Steps.{instance_follows}
use Rattle.ab_term.proofs.hereditary_substitution.instance_follows_beta_steps.Goals as goal

pub returns : goal.returns
returns g c = λ sg G A B t u d e. instance_follows sg d e
