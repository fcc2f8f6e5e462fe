use Rattle.ab_theory.proofs.Assuming.{nothing_assumed}
use Rattle.ab_theory.proofs.assumptions.what_assumes_nothing_has_no_gaps.Goals as goal

pub returns : goal.returns
returns c D d bounded none = nothing_assumed D d bounded none
