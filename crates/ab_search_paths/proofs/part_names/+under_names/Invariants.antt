use Rattle.std.proofs.Common.{length}
use Rattle.ab_search_paths.proofs.part_names.+under_names.Given as goal

abbrev pub decreases-under_names : goal.decreases-under_names
decreases-under_names l = length l.names.now
