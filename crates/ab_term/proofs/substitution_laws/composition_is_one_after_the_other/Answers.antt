use Rattle.ab_term.proofs.Compositions.{image-composition, composition_typed}
use Rattle.ab_term.proofs.substitution_laws.composition_is_one_after_the_other.Goals as goal

pub returns-clause-image : goal.returns-clause-image
returns-clause-image g c = λ sg same s r s_typed r_typed G A t d. image-composition sg same s s_typed r r_typed d

pub returns-clause-typed : goal.returns-clause-typed
returns-clause-typed g c = λ sg same s r s_typed r_typed. composition_typed sg same s s_typed r r_typed
