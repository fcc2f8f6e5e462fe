use Rattle.ab_search_sessions.proofs.Sessions.{session_unhashed}
use Rattle.ab_search_sessions.proofs.laws.sessions_have_no_coinductive_judgement.Goals as goal

pub returns : goal.returns
returns c = λ es t r. session_unhashed es t r
