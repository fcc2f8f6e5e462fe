use Rattle.std.proofs.Common.{ℕ, ◌+◌, ◌-◌, ◌≤◌, List}
use Rattle.ab_search_trees.specs.Tree.{Leaf}
use Rattle.ab_walk.specs.Places.{HasLeaves}
use Rattle.ab_walk.specs.Stacks.{beginning_at, IsUnderway}
use Rattle.ab_walk.proofs.walk.walk_on.Given as goal

abbrev pub invariant-turns : goal.invariant-turns
invariant-turns g l = record {
  underway : (ls : List Leaf) (h : HasLeaves l.fn.world l.base l.fn.place ls g.turns) → (n : ℕ) × (l.taken + n ≤ g.turns) × IsUnderway (beginning_at l.fn.world l.base h.0 l.fn.place) l.base ls n l.world l.stack.items l.seen;
  steps : l.fn.steps ≤ l.steps;
}

-- each turn is one of those that lead through the leaves
abbrev pub decreases-turns : goal.decreases-turns
decreases-turns g l = g.turns - l.taken
