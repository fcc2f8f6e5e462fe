-- What commands that take back answer, and what those that go forward answer seen beside them.
use Rattle.std.specs.Prelude.{Result, Ok, Err, IfOk, OnOk, OnErr, is_ok, is_err}
use Rattle.std.proofs.Common.{◌≡◌, inl, inr, true, false, ℕ, ◌+◌, ◌<◌, List, [], ◌∷◌, length, None, is_some, refl, sym, ◌∙◌, ap, subst, arith, length-append}
use Rattle.std.proofs.lemmas.List.{length-map, length-reverse}
use Rattle.ab_grammar.specs.CommandTrees as told
use Rattle.ab_states.specs.ab_specification.specs.ab_declare.specs.declared.refusal.Refusal.TheVariants.{NothingToUndo}
use Rattle.ab_states.specs.State as plain
use Rattle.ab_states.specs.State.{State, Entry, is_open}
use Rattle.ab_states.specs.Reply as reply
use Rattle.ab_states.specs.Reply.{is_kept}
use Rattle.ab_states.specs.Replay.{IsReplayed}
use Rattle.ab_states.specs.ForwardEffects.{Commands, GoesForward}
use Rattle.ab_states.specs.StateEffects.{HasEffect, forward, took_back, nothing_kept, undid, began, emptied}
use Rattle.ab_states.proofs.Replaying.{kept_by}
use Rattle.ab_states.specs.declared.reply.Reply.{Reply}
use Rattle.ab_states.specs.declared.reply.Reply.TheVariants.{Accepted, Refused}
use Rattle.ab_session.specs.declared.command_history.Kept.{Kept}
use Rattle.ab_session.specs.Contents.{Contents, past_of, entries_of, state_of}
use Rattle.ab_session.specs.Origins.{CameFrom, Precedes, itself, further}
use Rattle.ab_session.specs.SessionAnswers.{KeepsOneMore, KeepsFewer, IsForwardAnswer, IsAnswer}
use Rattle.ab_session.proofs.Sayings.{open_as, one_tried}
use Rattle.ab_session.proofs.Origins.{pasts, length-entries, state_before, state_empty}
use Rattle.ab_session.proofs.Lasting.{same_itself, none_back}

-- Numbers of kept commands

pub kept_many : (ks : List Kept) → length (entries_of (pasts ks)) ≡ length ks
kept_many ks = length-entries (pasts ks) ∙ length-reverse _ ∙ length-map ks past_of

-- A command that goes forward

pub no_fewer : (s t : State) (e : Entry) (r : reply.Reply) → GoesForward s e r t → length t.kept < length s.kept → ⊥
no_fewer s t e r h l =
    elim (kept_by h) [
      | inl x ↦ omega (arith, l, ap (λ (u : State). length u.kept) x.1)
      | inr x ↦ omega (arith, l, ap length x.1, length-append s.kept (e ∷ []))
    ]

pub answered : (old new : Contents) (bytes : List ℕ) (n m : ℕ) (r : Reply) → IsForwardAnswer old bytes new r → IsAnswer old bytes new n m r
answered old new bytes n m r a = record {
  effect = forward a.effect;
  speaks = a.speaks;
  completed = a.completed;
  admitted = a.admitted;
  refused = λ q e. a.unchanged (ap (λ x. is_kept (reply.reply_of new.world x)) e);
  goes_on = λ none.
      elim (kept_by a.effect) [
        | inl x ↦ inl (a.unchanged x.0)
        | inr x ↦ inr (a.kept x.0)
      ];
  taken_back = λ less. absurd (no_fewer (state_of old) (state_of new) (plain.plain bytes) (reply.reply_of new.world r) a.effect less);
  steps = λ less. absurd (no_fewer (state_of old) (state_of new) (plain.plain bytes) (reply.reply_of new.world r) a.effect less);
}

pub if_answered : {E : Type 0} (old new : Contents) (bytes : List ℕ) (n m : ℕ) (r : Result Reply E) → IfOk r (IsForwardAnswer old bytes new) → IfOk r (IsAnswer old bytes new n m)
if_answered old new bytes n m (Ok r) h = answered old new bytes n m r h
if_answered old new bytes n m (Err e) h = tt

-- Commands that take back

-- a step for each entry of the table and each declaration that went
abbrev pub AddsUp : Contents → Contents → ℕ → ℕ → Type 0
AddsUp s t n m = m + length t.world.types + length t.world.additions ≡ n + length s.world.types + length s.world.additions

module _ (s : Contents) (bytes : List ℕ) where
  accepted_back : (t : Contents) (n m : ℕ) → HasEffect (state_of s) bytes [] reply.accepted (state_of t) → Precedes t s → AddsUp s t n m → IsAnswer s bytes t n m Accepted
  accepted_back t n m effect p sum = record {
    effect = effect;
    speaks = tt;
    completed = λ name bad. absurd (cc);
    admitted = λ name names bad. absurd (cc);
    refused = λ r bad. absurd (cc);
    goes_on = λ none. inl (none_back t s p none);
    taken_back = λ less. p;
    steps = λ less. sum;
  }

  refused_back : (n m : ℕ) → HasEffect (state_of s) bytes [] (reply.refused NothingToUndo) (state_of s) → IsAnswer s bytes s n m (Refused NothingToUndo)
  refused_back n m effect = record {
    effect = effect;
    speaks = tt;
    completed = λ name bad. absurd (cc);
    admitted = λ name names bad. absurd (cc);
    refused = λ r same. same_itself s;
    goes_on = λ none. inl (same_itself s);
    taken_back = λ less. itself;
    steps = λ less. omega (arith, less);
  }

  pub back_answer : (t : Contents) (n m : ℕ) → Commands (state_of s) bytes told.back → CameFrom t s → AddsUp s t n m → IsAnswer s bytes t n m Accepted
  back_answer t n m said from sum = accepted_back t n m (took_back said (state_before t s from)) (further itself from) sum

  pub nothing_answer : (t : Contents) (n m : ℕ) → t ≡ s → Commands (state_of s) bytes told.back → (state_of s).kept ≡ [] → IsAnswer s bytes t n m (Refused NothingToUndo)
  nothing_answer t n m same said none = subst (λ u. IsAnswer s bytes u n m (Refused NothingToUndo)) (sym same) (refused_back n m (nothing_kept said none))

  pub undo_answer : (t : Contents) (n m : ℕ) → Commands (state_of s) bytes told.undo → CameFrom t s → (is_some s.attempt ≡ true → is_some t.attempt ≡ true) → AddsUp s t n m → IsAnswer s bytes t n m Accepted
  undo_answer t n m said from went sum =
      accepted_back t n m (undid said (state_before t s from) (open_as t ∙ went (one_tried s bytes told.undo said refl))) (further itself from) sum

  pub no_longer : s.attempt ≡ None → Commands (state_of s) bytes told.undo → ⊥
  no_longer closed said = let bad : true ≡ false = sym (one_tried s bytes told.undo said refl) ∙ ap is_some closed in cc

  pub began_answer : (n m : ℕ) (e : Contents) → Commands (state_of s) bytes told.undo → CameFrom e s → e.attempt ≡ None → IsAnswer s bytes s n m (Refused NothingToUndo)
  began_answer n m e said from closed = refused_back n m (began said (state_before e s from) (open_as e ∙ ap is_some closed))

  pub reset_answer : (t : Contents) (n m : ℕ) → Commands (state_of s) bytes told.reset → IsReplayed (state_of t) → (state_of t).kept ≡ [] → Precedes t s → AddsUp s t n m → IsAnswer s bytes t n m Accepted
  reset_answer t n m said replayed none p sum =
      accepted_back t n m (subst (HasEffect (state_of s) bytes [] reply.accepted) (sym (state_empty (state_of t) replayed none)) (emptied said)) p sum

-- further back
pub back_once_more : (t u : Contents) → CameFrom u t → (s : Contents) → Precedes t s → Precedes u s
back_once_more t u from _ itself = further itself from
back_once_more t u from s (further {t = m} p next) = further (back_once_more t u from m p) next

-- what holds of a value, or of an error, where it is one
pub at_ok : {T E P : Type 0} (r : Result T E) → is_ok r ≡ true → OnOk r P → P
at_ok (Ok x) e p = p
at_ok (Err x) e p = let bad : false ≡ true = e in absurd (cc)

pub at_err : {T E P : Type 0} (r : Result T E) → is_ok r ≡ false → OnErr r P → P
at_err (Ok x) e p = let bad : true ≡ false = e in absurd (cc)
at_err (Err x) e p = p

pub not_ok : {T E : Type 0} (r : Result T E) → is_ok r ≡ false → is_err r ≡ true
not_ok (Ok x) e = let bad : true ≡ false = e in absurd (cc)
not_ok (Err x) e = refl

-- a state keeps no command more and none fewer than itself

pub not_kept : (s : State) (bytes : List ℕ) → KeepsOneMore s bytes s → ⊥
not_kept s bytes more = omega (arith, ap length more.kept, length-append s.kept (more.entry ∷ []))

pub not_fewer : (s : State) → KeepsFewer s s → ⊥
not_fewer s less = omega (arith, less)
