use Rattle.std.proofs.Common.{◌≢◌, ℕ, ◌<◌, get_or}
use Rattle.ab_kernel.specs.StandsAgain.{no_constant}
use Rattle.ab_kernel.proofs.replaced_constants.stands_again.Given as goal

abbrev pub invariant-loop-later : goal.invariant-loop-later
invariant-loop-later l = (k : ℕ) → l.place < k → k < l.later → get_or l.constants k no_constant ≢ get_or l.constants l.place no_constant
