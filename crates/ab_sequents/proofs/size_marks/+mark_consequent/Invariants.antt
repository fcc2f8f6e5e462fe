use Rattle.ab_sequents.proofs.size_marks.+mark_consequent.Given as goal

abbrev pub decreases-mark_consequent : goal.decreases-mark_consequent
decreases-mark_consequent l = l.id.0
