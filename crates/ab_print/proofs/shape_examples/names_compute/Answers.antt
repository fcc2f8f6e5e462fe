-- Numbers have to be computed.
use Rattle.std.proofs.Common.{refl}
use Rattle.std.specs.Fmt.{digits}
use Rattle.ab_print.proofs.shape_examples.names_compute.Goals as goal

pub returns-clause-in_the_body : goal.returns-clause-in_the_body
unfolding digits
returns-clause-in_the_body c = refl

pub returns-clause-first_number : goal.returns-clause-first_number
unfolding digits
returns-clause-first_number c = refl

pub returns-clause-second_number : goal.returns-clause-second_number
unfolding digits
returns-clause-second_number c = refl

pub returns-clause-constants : goal.returns-clause-constants
unfolding digits
returns-clause-constants c = refl

pub returns-clause-nominal_constants : goal.returns-clause-nominal_constants
unfolding digits
returns-clause-nominal_constants c = refl

pub returns-clause-lists : goal.returns-clause-lists
unfolding digits
returns-clause-lists c = refl
