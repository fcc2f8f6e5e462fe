use Rattle.ab_sequents.proofs.conjunctions.+gather.Given as goal

abbrev pub decreases-gather : goal.decreases-gather
decreases-gather l = l.id.0
