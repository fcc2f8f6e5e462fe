use Rattle.ab_search_proofs.proofs.Begins.{begins}
use Rattle.ab_search_proofs.proofs.laws.a_sequent_is_like_itself.Goals as goal

pub returns : goal.returns
returns c = begins
