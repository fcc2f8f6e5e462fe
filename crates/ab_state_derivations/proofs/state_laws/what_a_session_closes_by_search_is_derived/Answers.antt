use Rattle.ab_state_derivations.proofs.Searches.{searches_derived}
use Rattle.ab_state_derivations.proofs.state_laws.what_a_session_closes_by_search_is_derived.Goals as goal

pub returns : goal.returns
returns c s bytes sound replayed = searches_derived s bytes sound replayed
