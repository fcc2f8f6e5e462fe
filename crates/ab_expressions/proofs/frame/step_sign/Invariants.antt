use Rattle.std.proofs.Common.{◌≡◌, length}
use Rattle.ab_grammar.proofs.Machine as machine
use Rattle.ab_expressions.specs.SyntaxTrees.{tree_of}
use Rattle.ab_expressions.specs.Frames.{frames_of}
use Rattle.ab_expressions.proofs.frame.step_sign.Given as goal

-- what is left to pop comes to the same
abbrev pub invariant-loop-frame : goal.invariant-loop-frame
invariant-loop-frame l = machine.pop l.fn.sign (tree_of l.fn.operand.value) (frames_of l.fn.frames) ≡ machine.pop l.sign (tree_of l.operand.value) (frames_of l.frames)

abbrev pub decreases-loop-frame : goal.decreases-loop-frame
decreases-loop-frame l = length (frames_of l.frames)
