use Rattle.std.proofs.Common.{◌≡◌, length}
use Rattle.ab_grammar.proofs.Machine as machine
use Rattle.ab_expressions.specs.SyntaxTrees.{type_of}
use Rattle.ab_expressions.specs.ReaderSteps.{type_frames_of}
use Rattle.ab_expressions.proofs.types.shut_type.Given as goal

-- what is left to shut comes to the same
abbrev pub invariant-loop-left : goal.invariant-loop-left
invariant-loop-left l = machine.type_shut (type_of l.fn.last.value) (type_frames_of l.fn.frames) ≡ machine.type_shut (type_of l.last.value) (type_frames_of l.frames)

abbrev pub decreases-loop-left : goal.decreases-loop-left
decreases-loop-left l = length (type_frames_of l.frames)
