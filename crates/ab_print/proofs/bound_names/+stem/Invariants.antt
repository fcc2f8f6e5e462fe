use Rattle.std.proofs.Common.{length}
use Rattle.ab_print.proofs.bound_names.+stem.Given as goal

abbrev pub decreases-stem : goal.decreases-stem
decreases-stem l = length l.name.now
