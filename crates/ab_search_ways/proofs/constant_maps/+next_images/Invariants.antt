use Rattle.std.proofs.Common.{length}
use Rattle.ab_search_ways.proofs.constant_maps.+next_images.Given as goal

abbrev pub decreases-next_images : goal.decreases-next_images
decreases-next_images l = length l.names.now
