use Rattle.ab_theory.specs.Derivations.{debts}
use Rattle.ab_theory.specs.Assumptions.{all_places}
use Rattle.ab_theory.proofs.Assuming.{places_grow, in_places}
use Rattle.ab_theory.proofs.assumptions.assumed_places_are_in_order.Goals as goal

pub returns : goal.returns
returns c = record { grow = λ D d. places_grow D (all_places D (debts d)); all = λ D d j. in_places D (all_places D (debts d)) j }
