-- Answers to any command, and to one behind which the world is cut.
use Rattle.std.specs.Prelude.{Result, Ok, Err, IfOk}
use Rattle.std.proofs.Common.{◌≡◌, ◌⊎◌, inl, inr, true, false, ℕ, ◌<◌, ◌≤◌, List, [], ◌∷◌, length, refl, sym, ◌∙◌, ap, subst, arith, length-append}
use Rattle.ab_sigmod.specs.FileLoads.{FilesSeen, Load, no_load}
use Rattle.ab_logic.specs.Worlds.{declarations_of}
use Rattle.ab_logic.specs.declared.world.World.{World}
use Rattle.ab_states.specs.ab_specification.specs.ab_declare.specs.declared.refusal.Refusal.{Refusal}
use Rattle.ab_states.specs.State as plain
use Rattle.ab_states.specs.State.{State, Entry, with_files}
use Rattle.ab_states.specs.Reply as reply
use Rattle.ab_states.specs.Reply.{SpeaksOfNoGoal, is_kept, reply_of}
use Rattle.ab_states.specs.ForwardEffects.{GoesForward}
use Rattle.ab_states.specs.StateEffects.{HasEffect, forward, by_files, unread_files, took_back, nothing_kept, undid, began, emptied}
use Rattle.ab_states.proofs.Replaying.{kept_by, replays_keep}
use Rattle.ab_states.specs.declared.reply.Reply.{Reply}
use Rattle.ab_states.specs.declared.reply.Reply.TheVariants.{Accepted, Completed, Admitted, Shown, Quit, Refused}
use Rattle.ab_session.specs.Contents.{Contents, state_of}
use Rattle.ab_session.specs.Sessions.{IsSound}
use Rattle.ab_session.specs.Origins.{CameFrom, IsSame}
use Rattle.ab_session.specs.Remains.{NothingIsLeftOver}
use Rattle.ab_session.specs.LatestNames.{IsFreed}
use Rattle.ab_session.specs.SessionAnswers.{IsDerivedLast, IsProvedLast, KeepsOneMore, KeepsFewer, IsFileAnswer, IsAnswer, IsReplied}
use Rattle.ab_session.proofs.TakingBack.{not_kept, not_fewer}
use Rattle.ab_session.proofs.Lasting.{same_itself, same_lasts, none_fewer, came_if_more, same_if_same, goes_by, came_lasts, going_lasts, earlier_lasts}

-- a state that is the same, or keeps one command more, keeps none fewer

as_many : (s t : State) → t ≡ s → KeepsFewer s t → ⊥
as_many s t same less = omega (arith, less, ap (λ (u : State). length u.kept) same)

more_or_fewer : (s t : State) (bytes : List ℕ) → KeepsOneMore s bytes t → KeepsFewer s t → ⊥
more_or_fewer s t bytes more less = omega (arith, less, ap length more.kept, length-append s.kept (more.entry ∷ []))

-- Answers of each kind

pub unread_replied : (f : FilesSeen) (s : Contents) (bytes : List ℕ) (n : ℕ) (r : Refusal) → IsSound s → HasEffect (state_of s) bytes [] (reply.refused r) (state_of s) → IsReplied f f s bytes s n n (Refused r)
unread_replied f s bytes n r is effect = record {
  effect = record { loads = []; asked = no_load; effect = effect };
  speaks = tt;
  completed = λ name bad. absurd (cc);
  admitted = λ name names bad. absurd (cc);
  refused = λ q same. same_itself s;
  unchanged = λ same. same_itself s;
  kept = λ more. absurd (not_kept (state_of s) bytes more);
  lasts = λ none. same_lasts s s is (same_itself s);
  lasted = λ less. absurd (not_fewer (state_of s) less);
  taken_back = λ less. absurd (not_fewer (state_of s) less);
  steps = λ less. absurd (not_fewer (state_of s) less);
}

pub if_plain_replied : {E : Type 0} (f : FilesSeen) (old new : Contents) (bytes : List ℕ) (n m : ℕ) (r : Result Reply E) → IsSound old → IfOk r (IsAnswer old bytes new n m) → IfOk r (IsReplied f f old bytes new n m)
if_plain_replied f old new bytes n m (Ok r) is a = record {
  effect = record { loads = []; asked = no_load; effect = a.effect };
  speaks = a.speaks;
  completed = a.completed;
  admitted = a.admitted;
  refused = a.refused;
  unchanged = λ same. same_if_same old new (a.goes_on (λ less. as_many (state_of old) (state_of new) same less)) same;
  kept = λ more. came_if_more old new (a.goes_on (λ less. more_or_fewer (state_of old) (state_of new) bytes more less)) bytes more;
  lasts = λ none. going_lasts old new is (a.goes_on none);
  lasted = λ less. earlier_lasts new old is (a.taken_back less);
  taken_back = a.taken_back;
  steps = a.steps;
}
if_plain_replied f old new bytes n m (Err e) is a = tt

pub if_files_replied : {E : Type 0} (f g : FilesSeen) (old new : Contents) (bytes : List ℕ) (n m : ℕ) (r : Result Reply E) → IsSound old → IfOk r (IsFileAnswer f g old bytes new) → IfOk r (IsReplied f g old bytes new n m)
if_files_replied f g old new bytes n m (Ok r) is a =
    let on : IsSame old new ⊎ CameFrom old new = goes_by old new (is_kept (reply_of new.world r)) a.unchanged a.kept in
    record {
      effect = a.effect;
      speaks = a.speaks;
      completed = a.completed;
      admitted = a.admitted;
      refused = λ q e. a.unchanged (ap (λ x. is_kept (reply_of new.world x)) e);
      unchanged = same_if_same old new on;
      kept = came_if_more old new on bytes;
      lasts = λ none. going_lasts old new is on;
      lasted = λ less. absurd (none_fewer old new on less);
      taken_back = λ less. absurd (none_fewer old new on less);
      steps = λ less. absurd (none_fewer old new on less);
    }
if_files_replied f g old new bytes n m (Err e) is a = tt

-- Where more commands are kept than before, one more is, and its reply is one of those of kept commands

pub record KeptOne (s : State) (bytes : List ℕ) (r : reply.Reply) (t : State) : Type 0 where
  pub more : KeepsOneMore s bytes t
  pub replied : is_kept r ≡ true

kept_forward : (s t : State) (e : Entry) (bytes : List ℕ) (r : reply.Reply) → e.bytes ≡ bytes → GoesForward s e r t → length s.kept < length t.kept → KeptOne s bytes r t
kept_forward s t e bytes r of_these h l =
    elim (kept_by h) [
      | inl x ↦ absurd (omega (arith, l, ap (λ (u : State). length u.kept) x.1))
      | inr x ↦ record { more = record { entry = e; of_these = of_these; kept = x.1 }; replied = x.0 }
    ]

pub kept_one : (s t : State) (bytes : List ℕ) (loads : List Load) (r : reply.Reply) → HasEffect s bytes loads r t → length s.kept < length t.kept → KeptOne s bytes r t
kept_one s t bytes _ r (forward h) l = kept_forward s t (plain.plain bytes) bytes r refl h l
kept_one s t bytes loads r (by_files x files a i h) l = kept_forward s t (with_files files bytes) bytes r refl h l
kept_one s _ bytes loads _ (unread_files x fault a i) l = absurd (omega (arith, l))
kept_one s t bytes _ _ (took_back k b) l = absurd (omega (arith, l, ap length b.kept, length-append b.front (b.last ∷ []), ap length (replays_keep b.replayed)))
kept_one s _ bytes _ _ (nothing_kept k e) l = absurd (omega (arith, l))
kept_one s t bytes _ _ (undid k b o) l = absurd (omega (arith, l, ap length b.kept, length-append b.front (b.last ∷ []), ap length (replays_keep b.replayed)))
kept_one s _ bytes _ _ (began k b o) l = absurd (omega (arith, l))
kept_one s _ bytes _ _ (emptied k) l = absurd (omega (arith, l))

-- where no more are kept, none more is
none_more : (s t : State) (bytes : List ℕ) → length t.kept ≤ length s.kept → KeepsOneMore s bytes t → ⊥
none_more s t bytes l more = omega (arith, l, ap length more.kept, length-append s.kept (more.entry ∷ []))

-- THE ANSWER BEHIND WHICH THE WORLD IS CUT

-- such a reply says the same in each world
same_reply : (v w : World) (r : Reply) → is_kept (reply_of w r) ≡ true → (reply_of v r ≡ reply_of w r) × SpeaksOfNoGoal v r
same_reply v w Accepted kept = (refl, tt)
same_reply v w (Completed x) kept = (refl, tt)
same_reply v w (Admitted x ys) kept = (refl, tt)
same_reply v w (Shown x t) kept = let bad : false ≡ true = kept in absurd (cc)
same_reply v w Quit kept = let bad : false ≡ true = kept in absurd (cc)
same_reply v w (Refused q) kept = let bad : false ≡ true = kept in absurd (cc)

module _ (f g : FilesSeen) (old mid new : Contents) (bytes : List ℕ) (n m : ℕ) (r : Reply) (a : IsReplied f g old bytes mid n m r) (longer : length (state_of old).kept < length (state_of mid).kept)
    (freed : (e : Contents) → CameFrom e mid → IsFreed e mid new) (declared : declarations_of new.world ≡ declarations_of mid.world) where
  one : KeptOne (state_of old) bytes (reply_of mid.world r) (state_of mid)
  one = kept_one (state_of old) (state_of mid) bytes a.effect.loads (reply_of mid.world r) a.effect.effect longer

  free : IsFreed old mid new
  free = freed old (a.kept one.more)

  fewer_none : KeepsFewer (state_of old) (state_of new) → ⊥
  fewer_none less = omega (arith, less, longer, ap (λ (t : State). length t.kept) free.state)

  not_refused : (q : Refusal) → r ≡ Refused q → ⊥
  not_refused q e = let bad : false ≡ true = sym (ap (λ x. is_kept (reply_of mid.world x)) e) ∙ one.replied in cc

  replied_freed : (k : ℕ) → IsReplied f g old bytes new n k r
  replied_freed k =
      let same = same_reply new.world mid.world r one.replied in
      record {
        effect = record {
          loads = a.effect.loads;
          asked = a.effect.asked;
          effect =
              subst (λ q. HasEffect (state_of old) bytes a.effect.loads q (state_of new)) (sym same.0)
              (subst (λ t. HasEffect (state_of old) bytes a.effect.loads (reply_of mid.world r) t) (sym free.state) a.effect.effect);
        };
        speaks = same.1;
        completed = λ name e. subst (λ D. IsProvedLast D name) (sym declared) (a.completed name e);
        admitted = λ name names e. subst (λ D. IsDerivedLast D name) (sym declared) (a.admitted name names e);
        refused = λ q e. absurd (not_refused q e);
        unchanged = λ same. absurd (omega (arith, longer, ap (λ (t : State). length t.kept) free.state, ap (λ (t : State). length t.kept) same));
        kept = λ more. free.came;
        lasts = λ none. came_lasts old new free.came;
        lasted = λ less. absurd (fewer_none less);
        taken_back = λ less. absurd (fewer_none less);
        steps = λ less. absurd (fewer_none less);
      }

-- the reply, and nothing is left over
pub record IsAccepted (f g : FilesSeen) (old : Contents) (bytes : List ℕ) (new : Contents) (n m : ℕ) (r : Reply) : Type 0 where
  pub replied : IsReplied f g old bytes new n m r
  pub least : KeepsOneMore (state_of old) bytes (state_of new) → NothingIsLeftOver old new

pub accepted_cut : (f g : FilesSeen) (old mid cut new : Contents) (bytes : List ℕ) (n m k : ℕ) (r : Reply) → IsReplied f g old bytes mid n m r → length (state_of old).kept < length (state_of mid).kept
    → ((e : Contents) → CameFrom e mid → IsFreed e mid cut) → declarations_of cut.world ≡ declarations_of mid.world → new ≡ cut → IsAccepted f g old bytes new n k r
accepted_cut f g old mid cut new bytes n m k r a longer freed declared is =
    subst (λ t. IsAccepted f g old bytes t n k r) (sym is)
    (record { replied = replied_freed f g old mid cut bytes n m r a longer freed declared k; least = λ more. (free f g old mid cut bytes n m r a longer freed declared).none_over })

pub accepted_as_is : (f g : FilesSeen) (old mid new : Contents) (bytes : List ℕ) (n m k : ℕ) (r : Reply) → IsReplied f g old bytes mid n m r → length (state_of mid).kept ≤ length (state_of old).kept
    → new ≡ mid → k ≡ m → IsAccepted f g old bytes new n k r
accepted_as_is f g old mid new bytes n m k r a no_longer is same =
    subst (λ t. IsAccepted f g old bytes t n k r) (sym is)
    (subst (λ j. IsAccepted f g old bytes mid n j r) (sym same)
    (record { replied = a; least = λ more. absurd (none_more (state_of old) (state_of mid) bytes no_longer more) }))
