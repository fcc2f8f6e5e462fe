use Rattle.std.proofs.Common.{length}
use Rattle.ab_expressions.specs.SyntaxTrees.{tree_of}
use Rattle.ab_expressions.specs.Reader.{rest}
use Rattle.ab_syntax.proofs.GoalLists.{GoalsTo}
use Rattle.ab_syntax.proofs.file_items.goals.Given as goal

-- the goals so far were read, from the first on
abbrev pub invariant-loop-here : goal.invariant-loop-here
invariant-loop-here l = GoalsTo (rest l.text l.fn.here) (tree_of l.goal) (rest l.text l.here)

abbrev pub decreases-loop-here : goal.decreases-loop-here
decreases-loop-here l = length (rest l.text l.here)
