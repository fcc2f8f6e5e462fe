-- Numbers have to be computed.
use Rattle.std.proofs.Common.{refl}
use Rattle.std.specs.Fmt.{digits}
use Rattle.ab_print.proofs.examples.goals_compute.Goals as goal

pub returns-clause-with_names : goal.returns-clause-with_names
unfolding digits
returns-clause-with_names c = refl

pub returns-clause-not_free : goal.returns-clause-not_free
unfolding digits
returns-clause-not_free c = refl
