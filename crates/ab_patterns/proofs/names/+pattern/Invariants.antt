use Rattle.std.proofs.Common.{length}
use Rattle.ab_patterns.proofs.names.+pattern.Given as goal

abbrev pub decreases-pattern : goal.decreases-pattern
decreases-pattern l = length l.args.now
