use Rattle.ab_search_ways.proofs.HeadsApart.{all_apart}
use Rattle.ab_search_ways.proofs.rigid_heads.different_heads_are_apart.Goals as goal

pub returns : goal.returns
returns c = all_apart
