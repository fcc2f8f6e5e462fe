use Rattle.ab_states.proofs.Assumed.{assumes_these}
use Rattle.ab_states.proofs.laws.theorems_assume_what_has_gaps.Goals as goal

pub returns : goal.returns
returns c D place j d is are = assumes_these D place j d is are
