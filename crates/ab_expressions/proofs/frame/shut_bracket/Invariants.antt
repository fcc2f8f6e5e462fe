use Rattle.std.proofs.Common.{◌≡◌, length}
use Rattle.ab_grammar.proofs.Machine as machine
use Rattle.ab_expressions.specs.SyntaxTrees.{tree_of}
use Rattle.ab_expressions.specs.Frames.{frames_of}
use Rattle.ab_expressions.proofs.frame.shut_bracket.Given as goal

-- what is left to shut comes to the same
abbrev pub invariant-loop-bracket : goal.invariant-loop-bracket
invariant-loop-bracket l = machine.shut (tree_of l.fn.operand.value) (frames_of l.fn.frames) ≡ machine.shut (tree_of l.operand.value) (frames_of l.frames)

abbrev pub decreases-loop-bracket : goal.decreases-loop-bracket
decreases-loop-bracket l = length (frames_of l.frames)
