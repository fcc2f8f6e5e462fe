use Rattle.ab_term.specs.Variables.{value_in}
use Rattle.ab_term.specs.Sameness.{same_number}
use Rattle.ab_term.proofs.ClosingThrough.{close-instance}
use Rattle.ab_term.proofs.ClosingImages.{close-image}
use Rattle.ab_term.proofs.Images.{closed_map}
use Rattle.ab_term.proofs.Compositions.{map_typed}
use Rattle.ab_term.proofs.bound_heads.closing_goes_through.Goals as goal

pub returns-clause-instances : goal.returns-clause-instances
returns-clause-instances g c = λ k h t u. close-instance k h t u

pub returns-clause-images : goal.returns-clause-images
returns-clause-images g c = λ sg s all k h l t. close-image (value_in same_number s) (closed_map sg _ _ (value_in same_number s) (map_typed sg same_number s all)) k h l t
