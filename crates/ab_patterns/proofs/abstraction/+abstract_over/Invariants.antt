use Rattle.std.proofs.Common.{length}
use Rattle.ab_patterns.proofs.abstraction.+abstract_over.Given as goal

abbrev pub decreases-abstract_over : goal.decreases-abstract_over
decreases-abstract_over l = length l.names.now
