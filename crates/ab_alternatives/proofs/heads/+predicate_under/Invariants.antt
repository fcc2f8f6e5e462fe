use Rattle.ab_alternatives.proofs.heads.+predicate_under.Given as goal

abbrev pub decreases-predicate_under : goal.decreases-predicate_under
decreases-predicate_under l = l.id.0
