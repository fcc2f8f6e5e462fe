use Rattle.ab_term.proofs.Permuting.{up_to_names-instance}
use Rattle.ab_term.proofs.permutation_laws.equality_up_to_names_respects_instances.Goals as goal

pub returns : goal.returns
returns g c = λ ps t u v w d e. up_to_names-instance ps t u v w d e
