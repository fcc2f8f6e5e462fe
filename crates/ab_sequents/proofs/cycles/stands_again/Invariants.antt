use Rattle.std.proofs.Common.{◌≢◌, ℕ, ◌<◌, get_or}
use Rattle.ab_sequents.proofs.cycles.stands_again.Given as goal

abbrev pub invariant-loop-later : goal.invariant-loop-later
invariant-loop-later l = (k : ℕ) → l.place < k → k < l.later → get_or l.numbers k 0 ≢ get_or l.numbers l.place 0
