use Rattle.ab_alternatives.proofs.hints.+add_hints.Given as goal

abbrev pub decreases-add_hints : goal.decreases-add_hints
decreases-add_hints l = l.id.0
