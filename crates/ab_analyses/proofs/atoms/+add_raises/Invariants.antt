use Rattle.std.proofs.Common.{length}
use Rattle.ab_analyses.proofs.atoms.+add_raises.Given as goal

abbrev pub decreases-add_raises : goal.decreases-add_raises
decreases-add_raises l = length l.cells.now
