use Rattle.ab_alternatives.proofs.heads.+add_prefix.Given as goal

abbrev pub decreases-add_prefix : goal.decreases-add_prefix
decreases-add_prefix l = l.id.0
