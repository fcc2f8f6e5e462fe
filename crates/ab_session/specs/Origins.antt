-- Where a session came from: the session before its latest kept command, as far back as commands are kept. What was true of that
-- session was shown when it was the present one, so going back only has to arrive at it.
use Rattle.std.specs.Prelude.{◌≡◌, ℕ, List, [], ◌∷◌, ◌++◌, length, Option, Some, None}
use Rattle.ab_logic.specs.WorldGrowth.{Grows}
use Rattle.ab_proofcmd.specs.ab_hypothesis.specs.ab_steps.specs.ab_kernel.specs.Layout.{Held, Beyond}
use Rattle.ab_states.specs.ab_specification.specs.ab_declare.specs.Moments.{IsMoment, IsRestored}
use Rattle.ab_states.specs.Replay.{IsReplayed}
use Rattle.ab_session.specs.declared.attempt.Attempt.{Attempt}
use Rattle.ab_session.specs.declared.command_history.Deed.{Deed}
use Rattle.ab_session.specs.declared.command_history.Deed.TheVariants.{Went, Began, Completed, GaveUp}
use Rattle.ab_session.specs.Contents.{Contents, Past, state_of}
use Rattle.ab_session.specs.Sessions.{IsSound}

-- the second attempt is the first after more steps, if any; so many stood before them
pub record IsLater (count : ℕ) (a b : Attempt) : Type 0 where
  pub name : b.name ≡ a.name
  pub formula : b.formula ≡ a.formula
  pub beyond : Beyond a.proof b.proof
  pub counted : count ≡ length a.proof.journal

-- the open proof went on, or none is open
abbrev pub WentOn : ℕ → Option Attempt → Option Attempt → Type 0
WentOn count None None = Unit {0}
WentOn count None (Some b) = ⊥
WentOn count (Some a) None = ⊥
WentOn count (Some a) (Some b) = IsLater count a b

-- the attempt's proof was completed by more steps, and stands behind the proofs that there were
pub record IsCompletion (count : ℕ) (name : List ℕ) (a : Attempt) (ps qs : List Held) : Type 0 where
  pub proof : Held
  pub named : a.name ≡ name
  pub beyond : Beyond a.proof proof
  pub counted : count ≡ length a.proof.journal
  pub pushed : qs ≡ ps ++ proof ∷ []

-- from these proofs of theorems and this attempt to those, by what a command did; so many steps stood before it
abbrev pub CameBy : Deed → ℕ → List Held → Option Attempt → List Held → Option Attempt → Type 0
CameBy Went count ps a qs b = (qs ≡ ps) × WentOn count a b
CameBy Began count ps a qs b = (qs ≡ ps) × (a ≡ None)
CameBy (Completed x F) count ps a qs b = (c : Attempt) × (a ≡ Some c) × (c.formula ≡ F) × IsCompletion count x c ps qs × (b ≡ None)
CameBy (GaveUp c) count ps a qs b = (qs ≡ ps) × (a ≡ Some c) × (b ≡ None)

-- THE SECOND SESSION CAME FROM THE FIRST by its latest kept command: it grew, and what is kept of the command leads back
pub record CameFrom (e s : Contents) : Type 0 where
  pub last : Past
  pub past : s.past ≡ last ∷ e.past
  pub sound : IsSound e
  pub replayed : IsReplayed (state_of e)
  pub moment : IsMoment e.world last.before.moment
  pub grows : Grows e.world s.world
  pub all_subgoals : last.before.all_subgoals ≡ e.all_subgoals
  pub by : CameBy last.deed last.before.steps e.proofs e.attempt s.proofs s.attempt

-- each kept command, from the first on, led from one session to the next
pub data Remembers : Contents → Type 0 where
  begun : {s : Contents} → s.past ≡ [] → s.attempt ≡ None → Remembers s
  later : {s : Contents} (e : Contents) → CameFrom e s → Remembers e → Remembers s

-- WHAT IS TRUE OF EVERY SESSION
pub record IsSession (s : Contents) : Type 0 where
  pub sound : IsSound s
  pub replayed : IsReplayed (state_of s)
  pub remembers : Remembers s

-- THE FIRST SESSION IS AN EARLIER ONE, or the same: so many commands were kept since
pub data Precedes (s : Contents) : Contents → Type 0 where
  itself : Precedes s s
  further : {t u : Contents} → Precedes s t → CameFrom t u → Precedes s u

-- THE SAME SESSION, to each node, cell, type and declaration, but for room that was made
pub record IsSame (s t : Contents) : Type 0 where
  pub world : IsRestored s.world t.world
  pub proofs : t.proofs ≡ s.proofs
  pub attempt : t.attempt ≡ s.attempt
  pub all_subgoals : t.all_subgoals ≡ s.all_subgoals
  pub past : t.past ≡ s.past
