use Rattle.ab_search_sessions.proofs.Defined.{first_none}
use Rattle.ab_search_sessions.proofs.laws.what_is_built_in_has_no_coinductive_judgement.Goals as goal

pub returns : goal.returns
returns c = first_none
