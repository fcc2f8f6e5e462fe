use Rattle.std.proofs.Common.{length}
use Rattle.ab_proofcmd.proofs.awaited_goals.+bare.Given as goal

abbrev pub decreases-bare : goal.decreases-bare
decreases-bare g l = length l.names.now
