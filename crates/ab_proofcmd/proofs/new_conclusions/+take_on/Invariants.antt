use Rattle.std.proofs.Common.{length}
use Rattle.ab_proofcmd.proofs.new_conclusions.+take_on.Given as goal

abbrev pub decreases-take_on : goal.decreases-take_on
decreases-take_on g l = length l.given.now
