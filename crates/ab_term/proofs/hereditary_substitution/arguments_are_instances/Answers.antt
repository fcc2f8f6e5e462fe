use Rattle.ab_term.proofs.InOrder.{reduce-instances}
use Rattle.ab_term.proofs.hereditary_substitution.arguments_are_instances.Goals as goal

pub returns : goal.returns
returns g c = λ sg G A B t us d ds. reduce-instances sg us d ds
