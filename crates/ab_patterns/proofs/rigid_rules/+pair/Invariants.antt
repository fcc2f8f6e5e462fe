use Rattle.std.proofs.Common.{length}
use Rattle.ab_patterns.proofs.rigid_rules.+pair.Given as goal

abbrev pub decreases-pair : goal.decreases-pair
decreases-pair l = length l.these.now
