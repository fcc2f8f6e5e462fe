use Rattle.std.proofs.Common.{length}
use Rattle.ab_proofcmd.proofs.stages.+take_stages.Given as goal

abbrev pub decreases-take_stages : goal.decreases-take_stages
decreases-take_stages g l = length l.stages.now
