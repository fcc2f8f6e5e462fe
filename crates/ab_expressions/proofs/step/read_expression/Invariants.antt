use Rattle.std.proofs.Common.{◌≤◌, ◌-◌, length}
use Rattle.ab_grammar.specs.Nesting.{limit}
use Rattle.ab_grammar.proofs.Readers.{SoFar}
use Rattle.ab_expressions.specs.Reader.{rest}
use Rattle.ab_expressions.specs.ReaderSteps.{layers_of, IsMeasured}
use Rattle.ab_expressions.specs.Frames.{frames_of}
use Rattle.ab_expressions.specs.States.{state_in}
use Rattle.ab_expressions.proofs.step.read_expression.Given as goal

-- the tokens before this place begin an expression, nowhere nested above the limit
abbrev pub invariant-loop-layers : goal.invariant-loop-layers
invariant-loop-layers l = record {
  so_far : SoFar (rest l.text l.fn.here) (rest l.text l.here) (state_in (frames_of l.frames) l.state) (layers_of l.layers);
  measured : IsMeasured l.layers;
  shallow : l.layers.depth ≤ limit;
}

abbrev pub decreases-loop-layers : goal.decreases-loop-layers
decreases-loop-layers l = length l.text.tokens.now - l.here
