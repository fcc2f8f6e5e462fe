use Rattle.std.proofs.Common.{length}
use Rattle.ab_search_paths.proofs.cell_terms.+type_behind.Given as goal

abbrev pub decreases-type_behind : goal.decreases-type_behind
decreases-type_behind l = length l.constants.now
