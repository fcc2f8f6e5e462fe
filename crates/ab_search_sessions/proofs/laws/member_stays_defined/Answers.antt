use Rattle.ab_search_sessions.proofs.Defined.{member_there}
use Rattle.ab_search_sessions.proofs.laws.member_stays_defined.Goals as goal

pub returns : goal.returns
returns c = λ D more. member_there D more
