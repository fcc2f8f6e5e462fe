use Rattle.std.proofs.Common.{◌≡◌, ◌++◌, vec_len}
use Rattle.ab_search_ways.proofs.goal_lists.Goals.with_all.Given as goal

abbrev pub invariant-loop-goal : goal.invariant-loop-goal
invariant-loop-goal l = l.front.items ++ l.goals ≡ l.fn.list.items ++ l.fn.self

abbrev pub decreases-loop-goal : goal.decreases-loop-goal
decreases-loop-goal l = vec_len l.front
