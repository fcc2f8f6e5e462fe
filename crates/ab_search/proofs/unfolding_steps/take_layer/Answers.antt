use Rattle.ab_search.proofs.Counting.{stands}
use Rattle.ab_search.proofs.unfolding_steps.take_layer.Goals as goal

pub returns-else-is_compound-clause-gave_way : goal.returns-else-is_compound-clause-gave_way
returns-else-is_compound-clause-gave_way g c = stands c.args.world.now c.args.proof.now c.args.place
