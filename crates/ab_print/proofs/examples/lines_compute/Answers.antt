-- Numbers have to be computed.
use Rattle.std.proofs.Common.{refl}
use Rattle.std.specs.Fmt.{digits}
use Rattle.ab_print.proofs.examples.lines_compute.Goals as goal

pub returns-clause-second : goal.returns-clause-second
unfolding digits
returns-clause-second c = refl

pub returns-clause-twelfth : goal.returns-clause-twelfth
unfolding digits
returns-clause-twelfth c = refl

pub returns-clause-number_alone : goal.returns-clause-number_alone
unfolding digits
returns-clause-number_alone c = refl

pub returns-clause-text : goal.returns-clause-text
unfolding digits
returns-clause-text c = refl
