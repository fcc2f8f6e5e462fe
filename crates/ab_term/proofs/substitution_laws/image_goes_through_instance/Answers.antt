use Rattle.ab_term.proofs.Compositions.{image-instance}
use Rattle.ab_term.proofs.substitution_laws.image_goes_through_instance.Goals as goal

pub returns : goal.returns
returns g c = λ sg same s typed G A B t u d e. image-instance sg same s typed d e
