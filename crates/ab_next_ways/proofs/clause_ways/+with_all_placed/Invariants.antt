use Rattle.std.proofs.Common.{length}
use Rattle.ab_next_ways.proofs.clause_ways.+with_all_placed.Given as goal

abbrev pub decreases-with_all_placed : goal.decreases-with_all_placed
decreases-with_all_placed l = length l.fresh.now
