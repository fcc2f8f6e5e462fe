use Rattle.ab_sequents.proofs.size_marks.+mark_under.Given as goal

abbrev pub decreases-mark_under : goal.decreases-mark_under
decreases-mark_under l = l.id.0
