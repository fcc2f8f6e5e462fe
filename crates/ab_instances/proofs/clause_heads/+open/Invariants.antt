use Rattle.std.proofs.Common.{length}
use Rattle.ab_instances.proofs.clause_heads.+open.Given as goal

abbrev pub decreases-open : goal.decreases-open
decreases-open g l = length l.names.now
