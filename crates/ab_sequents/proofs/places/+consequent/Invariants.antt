use Rattle.ab_sequents.proofs.places.+consequent.Given as goal

abbrev pub decreases-consequent : goal.decreases-consequent
decreases-consequent l = l.id.0
