-- In a session a search closes only goals that are derived.
use Rattle.std.proofs.Common.{ℕ, List, sym, subst}
use Rattle.std.specs.Prelude.{Contains}
use Rattle.ab_term.proofs.Lists.{Contains-here}
use Rattle.ab_formulas.specs.NamedGoals.{Goal}
use Rattle.ab_search_sessions.proofs.Defined.{member_there}
use Rattle.ab_search_sessions.proofs.Sessions.{session_unhashed, session_goal}
use Rattle.ab_states.specs.State.{State}
use Rattle.ab_states.specs.Replay.{IsReplayed}
use Rattle.ab_determinism.specs.Sound.{IsSound}
use Rattle.ab_command_derivations.proofs.Searching.{search_derived}
use Rattle.ab_state_derivations.specs.DerivedStates.{SearchIsDerived}
use Rattle.ab_state_derivations.proofs.Forward.{sound_for}

pub searches_derived : (s : State) (bytes : List ℕ) → IsSound s → IsReplayed s → SearchIsDerived s bytes
searches_derived s bytes sound replayed l depth a t gs faces closes =
    let there : Contains a.goals faces.current = subst (λ (hs : List Goal). Contains hs faces.current) (sym faces.goals) (Contains-here faces.current gs) in
    let unmarked = (session_goal s.kept s a faces.current t replayed faces.attempt there faces.numbered.is).conclusion in
    search_derived s.declarations depth t (sound_for s.declarations sound.declarations) (member_there s.declarations sound.declarations.first) (session_unhashed s.kept s replayed).definitions faces.numbered.sequent unmarked closes
