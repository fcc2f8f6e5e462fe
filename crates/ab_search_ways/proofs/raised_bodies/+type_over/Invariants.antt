use Rattle.std.proofs.Common.{length}
use Rattle.ab_search_ways.proofs.raised_bodies.+type_over.Given as goal

abbrev pub decreases-type_over : goal.decreases-type_over
decreases-type_over l = length l.names.now
