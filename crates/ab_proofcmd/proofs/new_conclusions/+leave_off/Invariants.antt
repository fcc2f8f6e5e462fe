use Rattle.std.proofs.Common.{length}
use Rattle.ab_proofcmd.proofs.new_conclusions.+leave_off.Given as goal

abbrev pub decreases-leave_off : goal.decreases-leave_off
decreases-leave_off g l = length l.given.now
