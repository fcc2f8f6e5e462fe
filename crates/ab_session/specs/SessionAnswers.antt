-- What a command leaves of a session, by the answer to it.
use Rattle.std.specs.Prelude.{◌≡◌, ◌⊎◌, ℕ, ◌+◌, ◌<◌, true, false, List, [], ◌∷◌, ◌++◌, Option, Some, None, length}
use Rattle.ab_formulas.specs.Declarations.{Declarations, theorems_in}
use Rattle.ab_logic.specs.Worlds.{declarations_of}
use Rattle.ab_logic.specs.declared.world.World.{World}
use Rattle.ab_theory.specs.Derivations.{Derivation}
use Rattle.ab_proofcmd.specs.ab_hypothesis.specs.ab_steps.specs.ab_kernel.specs.Layout.{history_of}
use Rattle.ab_states.specs.ab_specification.specs.ab_declare.specs.declared.refusal.Refusal.{Refusal}
use Rattle.ab_states.specs.ab_specification.specs.ab_declare.specs.Moments.{IsMoment}
use Rattle.ab_states.specs.DerivedTheorems.{IsDerived, IsProved}
use Rattle.ab_sigmod.specs.FileLoads.{FilesSeen}
use Rattle.ab_states.specs.State.{State, Entry, plain}
use Rattle.ab_states.specs.ForwardEffects.{GoesForward}
use Rattle.ab_states.specs.StateEffects.{HasEffect, HasEffectOver}
use Rattle.ab_states.specs.Reply.{SpeaksOfNoGoal, is_kept, reply_of}
use Rattle.ab_states.specs.declared.reply.Reply.{Reply}
use Rattle.ab_states.specs.declared.reply.Reply.TheVariants.{Completed, Admitted, Refused}
use Rattle.ab_session.specs.declared.attempt.Attempt.{Attempt}
use Rattle.ab_session.specs.declared.command_history.Before.{Before}
use Rattle.ab_session.specs.Contents.{Contents, state_of}
use Rattle.ab_session.specs.Origins.{CameFrom, Precedes, IsSame}
use Rattle.ab_session.specs.Lasting.{Lasts}

-- THE LAST OF THE THEOREMS HAS THE NAME, and a derivation, perhaps with gaps, from what was declared before it
pub record IsDerivedLast (D : Declarations) (name : List ℕ) : Type 0 where
  pub place : ℕ
  pub derivation : Derivation
  pub derived : IsDerived D place derivation
  pub last : length (theorems_in D) ≡ place + 1
  pub named : derived.name ≡ name

-- THE LAST HAS THE NAME, and it is proved, with each theorem that it rests on
pub record IsProvedLast (D : Declarations) (name : List ℕ) : Type 0 where
  pub derived_last : IsDerivedLast D name
  pub proved : IsProved D name

-- one command more is kept, of these bytes
pub record KeepsOneMore (s : State) (bytes : List ℕ) (t : State) : Type 0 where
  pub entry : Entry
  pub of_these : entry.bytes ≡ bytes
  pub kept : t.kept ≡ s.kept ++ entry ∷ []

-- fewer commands are kept
abbrev pub KeepsFewer : State → State → Type 0
KeepsFewer s t = length t.kept < length s.kept

-- the reply and the next state are the effect of a command that goes forward, as it would be kept; a formula that is shown speaks
-- of no goal, a completed theorem is proved, or derived where it assumes some, what isn't kept leaves the session, and what is kept leads back
pub record IsEntryAnswer (old : Contents) (e : Entry) (new : Contents) (reply : Reply) : Type 0 where
  pub effect : GoesForward (state_of old) e (reply_of new.world reply) (state_of new)
  pub speaks : SpeaksOfNoGoal new.world reply
  pub completed : (name : List ℕ) → reply ≡ Completed name → IsProvedLast (declarations_of new.world) name
  pub admitted : (name : List ℕ) (names : List (List ℕ)) → reply ≡ Admitted name names → IsDerivedLast (declarations_of new.world) name
  pub unchanged : is_kept (reply_of new.world reply) ≡ false → IsSame old new
  pub kept : is_kept (reply_of new.world reply) ≡ true → CameFrom old new

-- the same of a command that reads no file
abbrev pub IsForwardAnswer : Contents → List ℕ → Contents → Reply → Type 0
IsForwardAnswer old bytes new reply = IsEntryAnswer old (plain bytes) new reply

-- the same of a specification, which gets loads from files of which this was told before, and that is told now
pub record IsFileAnswer (before after : FilesSeen) (old : Contents) (bytes : List ℕ) (new : Contents) (reply : Reply) : Type 0 where
  pub effect : HasEffectOver before after (state_of old) bytes (reply_of new.world reply) (state_of new)
  pub speaks : SpeaksOfNoGoal new.world reply
  pub completed : (name : List ℕ) → reply ≡ Completed name → IsProvedLast (declarations_of new.world) name
  pub admitted : (name : List ℕ) (names : List (List ℕ)) → reply ≡ Admitted name names → IsDerivedLast (declarations_of new.world) name
  pub unchanged : is_kept (reply_of new.world reply) ≡ false → IsSame old new
  pub kept : is_kept (reply_of new.world reply) ≡ true → CameFrom old new

-- the same for any other command, without a load; what takes nothing back leaves the session or leads on from it, and what takes back leads to an earlier session, and steps go from the one number to the
-- other by one for each entry of the table and each declaration that goes
pub record IsAnswer (old : Contents) (bytes : List ℕ) (new : Contents) (before after : ℕ) (reply : Reply) : Type 0 where
  pub effect : HasEffect (state_of old) bytes [] (reply_of new.world reply) (state_of new)
  pub speaks : SpeaksOfNoGoal new.world reply
  pub completed : (name : List ℕ) → reply ≡ Completed name → IsProvedLast (declarations_of new.world) name
  pub admitted : (name : List ℕ) (names : List (List ℕ)) → reply ≡ Admitted name names → IsDerivedLast (declarations_of new.world) name
  pub refused : (r : Refusal) → reply ≡ Refused r → IsSame old new
  pub goes_on : ¬ KeepsFewer (state_of old) (state_of new) → IsSame old new ⊎ CameFrom old new
  pub taken_back : KeepsFewer (state_of old) (state_of new) → Precedes new old
  pub steps : KeepsFewer (state_of old) (state_of new) →
      after + length new.world.types + length new.world.additions ≡ before + length old.world.types + length old.world.additions

-- what any command leaves, where files told of the one before and tell of the other now
pub record IsReplied (before after : FilesSeen) (old : Contents) (bytes : List ℕ) (new : Contents) (from to : ℕ) (reply : Reply) : Type 0 where
  pub effect : HasEffectOver before after (state_of old) bytes (reply_of new.world reply) (state_of new)
  pub speaks : SpeaksOfNoGoal new.world reply
  pub completed : (name : List ℕ) → reply ≡ Completed name → IsProvedLast (declarations_of new.world) name
  pub admitted : (name : List ℕ) (names : List (List ℕ)) → reply ≡ Admitted name names → IsDerivedLast (declarations_of new.world) name
  pub refused : (r : Refusal) → reply ≡ Refused r → IsSame old new
  pub unchanged : state_of new ≡ state_of old → IsSame old new
  pub kept : KeepsOneMore (state_of old) bytes (state_of new) → CameFrom old new
  pub lasts : ¬ KeepsFewer (state_of old) (state_of new) → Lasts old new
  pub lasted : KeepsFewer (state_of old) (state_of new) → Lasts new old
  pub taken_back : KeepsFewer (state_of old) (state_of new) → Precedes new old
  pub steps : KeepsFewer (state_of old) (state_of new) →
      to + length new.world.types + length new.world.additions ≡ from + length old.world.types + length old.world.additions

-- how many steps stand in the proof that is being made
abbrev pub steps_standing : World → Option Attempt → ℕ
steps_standing w None = 0
steps_standing w (Some a) = length (history_of w a.proof).earlier

-- how the session is, so far as it takes to come back here
pub record IsBefore (s : Contents) (b : Before) : Type 0 where
  pub moment : IsMoment s.world b.moment
  pub steps : b.steps ≡ steps_standing s.world s.attempt
  pub all_subgoals : b.all_subgoals ≡ s.all_subgoals
