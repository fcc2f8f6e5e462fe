-- Histories: each state that was passed through has its derivations, and so has the next, whatever is taken back.
use Rattle.std.specs.Prelude.{◌⊎◌}
use Rattle.std.proofs.Common.{◌≡◌, inl, inr, ℕ, List, [], ◌∷◌, ◌++◌, length, refl, sym, ◌∙◌, ap, subst, arith, append_assoc, append-nil}
use Rattle.std.specs.Prelude.{All, Some}
use Rattle.ab_formulas.specs.NamedGoals.{Goal, IsNumbered}
use Rattle.ab_formulas.specs.Sequents.{Sequent}
use Rattle.ab_sigmod.specs.FileLoads.{Load}
use Rattle.ab_states.specs.State.{Attempt, State, Entry, empty}
use Rattle.ab_states.specs.Reply.{Reply}
use Rattle.ab_states.specs.ForwardEffects.{GoesForward}
use Rattle.ab_states.specs.Replay.{Replays, none, IsReplayed}
use Rattle.ab_states.specs.StateEffects.{IsBeforeLast, HasEffect, forward as goes_forward, by_files, unread_files, took_back, nothing_kept, undid, began, emptied}
use Rattle.ab_states.proofs.Replaying.{kept_by, forward_replayed, replays_keep}
use Rattle.ab_determinism.specs.Sound.{IsSound}
use Rattle.ab_determinism.proofs.Effects.{one_replay}
use Rattle.ab_determinism.proofs.Sound.{sound_beginning}
use Rattle.ab_command_derivations.proofs.Proofs.{sequents_left}
use Rattle.ab_state_derivations.specs.DerivedStates.{HasItsProof, HasDerivations, HasHistory, SearchIsDerived, IsTrueOf}
use Rattle.ab_state_derivations.proofs.Forward.{sound_for, forward, true_of}

-- a list and one more, in two parts: the second part is empty, or it has that one last
at_end : {X : Type 0} (ks front behind : List X) (x : X) → ks ++ x ∷ [] ≡ front ++ behind → (front ≡ ks ++ x ∷ []) ⊎ ((rest : List X) × (ks ≡ front ++ rest))
at_end [] [] behind x e = inr ([], refl)
at_end [] (f ∷ []) behind x e = let head : f ≡ x = cc in inl (ap (λ y. y ∷ []) head)
at_end [] (f ∷ g ∷ front) behind x e = absurd (omega (arith, ap length e))
at_end (k ∷ ks) [] behind x e = inr (k ∷ ks, refl)
at_end (k ∷ ks) (f ∷ front) behind x e =
    let head : f ≡ k = cc in
    let tail : ks ++ x ∷ [] ≡ front ++ behind = cc in
    elim (at_end ks front behind x tail) [
      | inl same ↦ inl (ap (λ y. y ∷ front) head ∙ ap (λ ys. k ∷ ys) same)
      | inr (rest, same) ↦ inr (rest, ap (λ ys. k ∷ ys) same ∙ ap (λ y. y ∷ (front ++ rest)) (sym head))
    ]

-- in the beginning nothing is proved
pub first_derivations : HasDerivations empty
first_derivations = record { theorems = λ place low. absurd (omega (arith, low)); attempt = tt }

pub first_history : HasHistory empty
first_history [] behind t e none = first_derivations
first_history (f ∷ front) behind t e p = absurd (cc)

-- the state itself has its derivations
pub history_here : (s : State) → IsReplayed s → HasHistory s → HasDerivations s
history_here s replayed history = history s.kept [] s (sym (append-nil s.kept)) replayed

-- A COMMAND GOES FORWARD
pub history_forward : {s t : State} {e : Entry} {r : Reply} → GoesForward s e r t → IsSound s → IsReplayed s → SearchIsDerived s e.bytes → HasHistory s → HasHistory t
history_forward {s = s} {t = t} {e = e} h sound replayed searched history =
    elim (kept_by h) [ inl a ↦ subst HasHistory (sym a.1) history | inr a ↦ further a.1 ]
  where
    there : HasDerivations t
    there = forward h sound searched (history_here s replayed history)

    further : t.kept ≡ s.kept ++ e ∷ [] → HasHistory t
    further kept front behind u is p =
        elim (at_end s.kept front behind e (sym kept ∙ is)) [
          | inl same ↦ subst HasDerivations (one_replay sound_beginning (subst (λ es. Replays empty es t) (kept ∙ sym same) (forward_replayed h replayed)) p) there
          | inr (rest, before) ↦ history front rest u before p
        ]

-- it is taken back
history_back : {s t : State} → IsBeforeLast s t → HasHistory s → HasHistory t
history_back {s = s} {t = t} b history front behind u is p =
    let same : b.front ≡ front ++ behind = sym (replays_keep b.replayed) ∙ is in
    history front (behind ++ b.last ∷ []) u (b.kept ∙ ap (λ es. es ++ b.last ∷ []) same ∙ append_assoc front behind (b.last ∷ [])) p

-- BEHIND EACH EFFECT
pub history_on : {s t : State} {bytes : List ℕ} {loads : List Load} {r : Reply} → HasEffect s bytes loads r t → IsSound s → IsReplayed s → SearchIsDerived s bytes → HasHistory s → HasHistory t
history_on (goes_forward h) sound replayed searched history = history_forward h sound replayed searched history
history_on (by_files x files a i h) sound replayed searched history = history_forward h sound replayed searched history
history_on (unread_files x fault a i) sound replayed searched history = history
history_on (took_back k b) sound replayed searched history = history_back b history
history_on (nothing_kept k e) sound replayed searched history = history
history_on (undid k b o) sound replayed searched history = history_back b history
history_on (began k b o) sound replayed searched history = history
history_on (emptied k) sound replayed searched history = first_history

pub told_so : {s t : State} {bytes : List ℕ} {loads : List Load} {r : Reply} → HasEffect s bytes loads r t → IsSound s → IsReplayed s → SearchIsDerived s bytes → HasHistory s → IsTrueOf t r
told_so {s = s} (goes_forward h) sound replayed searched history = true_of h sound searched (history_here s replayed history)
told_so {s = s} (by_files x files a i h) sound replayed searched history = true_of h sound searched (history_here s replayed history)
told_so (unread_files x fault a i) sound replayed searched history = tt
told_so (took_back k b) sound replayed searched history = tt
told_so (nothing_kept k e) sound replayed searched history = tt
told_so (undid k b o) sound replayed searched history = tt
told_so (began k b o) sound replayed searched history = tt
told_so (emptied k) sound replayed searched history = tt

-- EACH GOAL OF AN OPEN PROOF is a sequent
pub goals_are_sequents : (s : State) (a : Attempt) → IsSound s → HasDerivations s → s.attempt ≡ Some a → All (λ (g : Goal). (t : Sequent) × IsNumbered s.declarations g t) a.goals
goals_are_sequents s a sound has there =
    let its : HasItsProof s.declarations (Some a) = subst (HasItsProof s.declarations) there has.attempt in
    sequents_left s.declarations (sound_for s.declarations sound.declarations) a.formula a.goals a.assumed its.1
