use Rattle.ab_sequents.proofs.mark_order.+look_at.Given as goal

abbrev pub decreases-look_at : goal.decreases-look_at
decreases-look_at l = l.id.0
