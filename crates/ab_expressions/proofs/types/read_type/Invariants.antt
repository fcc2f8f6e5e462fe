use Rattle.std.proofs.Common.{◌≤◌, ◌-◌, length}
use Rattle.ab_grammar.specs.Nesting.{limit}
use Rattle.ab_grammar.proofs.Readers.{TypeSoFar}
use Rattle.ab_expressions.specs.Reader.{rest}
use Rattle.ab_expressions.specs.ReaderSteps.{layers_of, IsMeasured, type_frames_of, type_state}
use Rattle.ab_expressions.proofs.types.read_type.Given as goal

-- the tokens before this place begin a type, nowhere nested above the limit
abbrev pub invariant-loop-layers : goal.invariant-loop-layers
invariant-loop-layers l = record {
  so_far : TypeSoFar (rest l.text l.fn.here) (rest l.text l.here) (type_state (type_frames_of l.frames) l.state) (layers_of l.layers);
  measured : IsMeasured l.layers;
  shallow : l.layers.depth ≤ limit;
}

abbrev pub decreases-loop-layers : goal.decreases-loop-layers
decreases-loop-layers l = length l.text.tokens.now - l.here
