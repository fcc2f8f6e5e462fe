use Rattle.std.proofs.Common.{length}
use Rattle.ab_proofcmd.proofs.new_conclusions.+given_that.Given as goal

abbrev pub decreases-given_that : goal.decreases-given_that
decreases-given_that l = length l.given.now
