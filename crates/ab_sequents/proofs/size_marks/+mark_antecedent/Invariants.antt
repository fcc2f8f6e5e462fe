use Rattle.ab_sequents.proofs.size_marks.+mark_antecedent.Given as goal

abbrev pub decreases-mark_antecedent : goal.decreases-mark_antecedent
decreases-mark_antecedent l = l.place
