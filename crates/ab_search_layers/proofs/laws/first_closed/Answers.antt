use Rattle.ab_search_layers.proofs.Closing.{first_steps}
use Rattle.ab_search_layers.proofs.laws.first_closed.Goals as goal

pub returns : goal.returns
returns c = first_steps
