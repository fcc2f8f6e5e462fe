use Rattle.ab_sequents.proofs.places.+matrix.Given as goal

abbrev pub decreases-matrix : goal.decreases-matrix
decreases-matrix l = l.id.0
