-- Where a proof is open some goal of it is left.
use Rattle.std.proofs.Common.{◌≢◌, List, [], ◌∷◌, Option, Some, None}
use Rattle.ab_formulas.specs.NamedGoals.{Goal, named}
use Rattle.ab_theory.specs.Derivations.{proves}
use Rattle.ab_states.specs.State.{Attempt, State, Entry}
use Rattle.ab_states.specs.Reply.{Reply}
use Rattle.ab_states.specs.ForwardEffects.{GoesForward, unread, declined, declared, specified, item_declined, specified_twice, stated, showed, ended, switched, given_up, denied, led, proved}
use Rattle.ab_states.specs.Replay.{Replays, none, next, IsReplayed}

abbrev pub LeavesGoals : Option Attempt → Type 0
LeavesGoals None = Unit {0}
LeavesGoals (Some a) = a.goals ≢ []

one_left : (g : Goal) (gs : List Goal) → g ∷ gs ≢ []
one_left g gs e = absurd (cc)

forward_leaves : {s t : State} {e : Entry} {reply : Reply} → GoesForward s e reply t → LeavesGoals s.attempt → LeavesGoals t.attempt
forward_leaves (unread c f) left = left
forward_leaves (declined c r h d) left = left
forward_leaves (declared c more h d) left = left
forward_leaves (specified x files more h n d) left = left
forward_leaves (item_declined x files r h n d) left = left
forward_leaves (specified_twice x h n) left = left
forward_leaves (stated x e F h n d) left = one_left (named (proves F 0)) []
forward_leaves (showed x F h e) left = left
forward_leaves (ended h) left = left
forward_leaves (switched on h) left = left
forward_leaves (given_up h) left = tt
forward_leaves (denied l c a t gs r f d) left = left
forward_leaves (led l c a t gs ps h hs f m e) left = one_left h hs
forward_leaves (proved l c a t gs ps f m e) left = tt

replay_leaves : {s t : State} {es : List Entry} → Replays s es t → LeavesGoals s.attempt → LeavesGoals t.attempt
replay_leaves none left = left
replay_leaves (next reply h k p) left = replay_leaves p (forward_leaves h left)

pub goals_left : (s : State) → IsReplayed s → LeavesGoals s.attempt
goals_left s replayed = replay_leaves replayed tt
