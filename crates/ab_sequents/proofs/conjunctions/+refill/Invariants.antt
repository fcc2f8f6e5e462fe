use Rattle.ab_sequents.proofs.conjunctions.+refill.Given as goal

abbrev pub decreases-refill : goal.decreases-refill
decreases-refill l = l.id.0
