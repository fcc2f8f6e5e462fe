use Rattle.ab_term.specs.Variables.{value_in}
use Rattle.ab_term.proofs.ClosedMaps.{image_reach}
use Rattle.ab_term.proofs.Images.{closed_map}
use Rattle.ab_term.proofs.Compositions.{map_typed}
use Rattle.ab_term.proofs.Stands.{support-image, variables-image}
use Rattle.ab_term.proofs.substitution_laws.image_has_no_more.Goals as goal

pub returns-clause-reach : goal.returns-clause-reach
returns-clause-reach g c = λ sg same s all t. image_reach (value_in same s) (closed_map sg _ _ (value_in same s) (map_typed sg same s all)) t

pub returns-clause-names : goal.returns-clause-names
returns-clause-names g c = λ same s t a m. support-image (value_in same s) t a m

pub returns-clause-free_variables : goal.returns-clause-free_variables
returns-clause-free_variables g c = λ same s t x m. variables-image (value_in same s) t x m
