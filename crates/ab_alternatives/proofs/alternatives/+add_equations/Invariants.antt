use Rattle.std.proofs.Common.{length}
use Rattle.ab_alternatives.proofs.alternatives.+add_equations.Given as goal

abbrev pub decreases-add_equations : goal.decreases-add_equations
decreases-add_equations l = length l.left.now
