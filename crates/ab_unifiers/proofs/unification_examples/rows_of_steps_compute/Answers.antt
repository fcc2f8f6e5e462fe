use Rattle.std.proofs.Common.{refl}
use Rattle.ab_unifiers.specs.Unification.{at_end, by_step}
use Rattle.ab_unifiers.proofs.unification_examples.rows_of_steps_compute.Goals as goal

pub returns-clause-later : goal.returns-clause-later
returns-clause-later c = by_step refl (by_step refl (at_end refl))

pub returns-clause-left : goal.returns-clause-left
returns-clause-left c = by_step refl (at_end refl)

pub returns-clause-apart : goal.returns-clause-apart
returns-clause-apart c = by_step refl (at_end refl)
