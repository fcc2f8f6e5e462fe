use Rattle.ab_walk.proofs.walk.walk.Given as goal

abbrev pub ghost-walk_on : goal.ghost-walk_on
ghost-walk_on g a = g.turns
