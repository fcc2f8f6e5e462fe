use Rattle.ab_walk.proofs.Beginnings.{turns_at}
use Rattle.ab_walk.proofs.goal_search.search.Given as goal

-- the turns that lead through the tree of the goal
abbrev pub ghost-walk : goal.ghost-walk
ghost-walk g a = turns_at a.world.now a.base.now a.place
