-- Replaying kept commands: each goes forward from the state that those before it left, and is one that is kept.
use Rattle.std.specs.Prelude.{◌≡◌, List, [], ◌∷◌, true}
use Rattle.ab_states.specs.State.{State, Entry, empty}
use Rattle.ab_states.specs.Reply.{Reply, is_kept}
use Rattle.ab_states.specs.ForwardEffects.{GoesForward}

pub data Replays : State → List Entry → State → Type 0 where
  none : {s : State} → Replays s [] s
  next : {s t u : State} {e : Entry} {es : List Entry} (reply : Reply) → GoesForward s e reply t → is_kept reply ≡ true → Replays t es u → Replays s (e ∷ es) u

-- THE STATE IS THE ONE that replaying its kept commands gives
abbrev pub IsReplayed : State → Type 0
IsReplayed s = Replays empty s.kept s
