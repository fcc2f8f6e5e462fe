use Rattle.std.proofs.Common.{sym}
use Rattle.ab_term.specs.Variables.{value_in}
use Rattle.ab_term.proofs.ClosedMaps.{shift-image, raise-image}
use Rattle.ab_term.proofs.Images.{closed_map, image-reduce}
use Rattle.ab_term.proofs.Compositions.{map_typed}
use Rattle.ab_term.proofs.InOrder.{image-instances}
use Rattle.ab_term.proofs.substitution_laws.image_goes_through_operations.Goals as goal

pub returns-clause-shifts : goal.returns-clause-shifts
returns-clause-shifts g c = λ sg same s all k t. sym (shift-image (value_in same s) (closed_map sg _ _ (value_in same s) (map_typed sg same s all)) t k)

pub returns-clause-raises : goal.returns-clause-raises
returns-clause-raises g c = λ sg same s all d k t. sym (raise-image (value_in same s) (closed_map sg _ _ (value_in same s) (map_typed sg same s all)) t d k)

pub returns-clause-arguments : goal.returns-clause-arguments
returns-clause-arguments g c = λ sg same s all G A B u ts d ds. image-reduce sg _ _ (value_in same s) (map_typed sg same s all) d ds

pub returns-clause-several : goal.returns-clause-several
returns-clause-several g c = λ sg same s all G A B t us d ds. image-instances sg same s all us d ds
