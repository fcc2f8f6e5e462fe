use Rattle.std.proofs.Common.{length}
use Rattle.ab_syntax.specs.Lists.{file_names}
use Rattle.ab_expressions.specs.Reader.{rest}
use Rattle.ab_syntax.proofs.Repeating.{ItemNext}
use Rattle.ab_syntax.proofs.file_items.names.Given as goal

-- the names so far were read, from the first on, and the comma behind the last of them
abbrev pub invariant-loop-names : goal.invariant-loop-names
invariant-loop-names l = ItemNext file_names (rest l.text l.fn.here) l.names.items (rest l.text l.here)

abbrev pub decreases-loop-names : goal.decreases-loop-names
decreases-loop-names l = length (rest l.text l.here)
