use Rattle.ab_search_sessions.proofs.Sessions.{session_derived}
use Rattle.ab_search_sessions.proofs.laws.what_search_closes_in_a_session_is_derived.Goals as goal

pub returns : goal.returns
returns c = λ es t a g depth s r begun there numbered comes. session_derived es t a g depth s r begun there numbered comes
