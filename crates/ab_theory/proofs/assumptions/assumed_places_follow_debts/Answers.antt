use Rattle.ab_theory.proofs.Assuming.{assumed_begun, assumed_more}
use Rattle.ab_theory.proofs.assumptions.assumed_places_follow_debts.Goals as goal

pub returns : goal.returns
returns c = record { begun = assumed_begun; more = assumed_more }
