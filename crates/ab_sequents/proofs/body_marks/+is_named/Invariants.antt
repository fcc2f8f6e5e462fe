use Rattle.std.proofs.Common.{length}
use Rattle.ab_sequents.proofs.body_marks.+is_named.Given as goal

abbrev pub decreases-is_named : goal.decreases-is_named
decreases-is_named l = length l.predicates.now
