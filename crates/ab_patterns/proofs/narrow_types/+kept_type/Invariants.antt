use Rattle.std.proofs.Common.{length}
use Rattle.ab_patterns.proofs.narrow_types.+kept_type.Given as goal

abbrev pub decreases-kept_type : goal.decreases-kept_type
decreases-kept_type l = length l.keep.now
