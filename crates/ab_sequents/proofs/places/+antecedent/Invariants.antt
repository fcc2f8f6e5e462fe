use Rattle.ab_sequents.proofs.places.+antecedent.Given as goal

abbrev pub decreases-antecedent : goal.decreases-antecedent
decreases-antecedent l = l.place
