use Rattle.ab_term.proofs.Compositions.{image_typed}
use Rattle.ab_term.proofs.substitution_laws.image_is_canonical.Goals as goal

pub returns : goal.returns
returns g c = λ sg same s typed G A t d. image_typed sg same s typed d
