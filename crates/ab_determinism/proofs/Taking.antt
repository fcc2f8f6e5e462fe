-- A state that taking back leads to is one, and effects leave sound states and what stays true of each.
use Rattle.std.proofs.Common.{◌≡◌, ℕ, List, [], ◌∷◌, ◌++◌, true, length, refl, sym, ◌∙◌, ap, subst, arith, length-append}
use Rattle.ab_sigmod.specs.FileLoads.{Load}
use Rattle.ab_states.specs.State.{State, Entry, empty}
use Rattle.ab_states.specs.Reply.{Reply, is_kept}
use Rattle.ab_states.specs.ForwardEffects.{GoesForward}
use Rattle.ab_states.specs.Replay.{Replays, none, next, IsReplayed}
use Rattle.ab_states.specs.StateEffects.{IsBeforeLast, HasEffect, forward, by_files, unread_files, took_back, nothing_kept, undid, began, emptied}
use Rattle.ab_states.proofs.Replaying.{goes_back}
use Rattle.ab_determinism.specs.Sound.{IsSound}
use Rattle.ab_determinism.proofs.Sound.{sound_forward, sound_beginning}
use Rattle.ab_determinism.proofs.Effects.{one_replay}

-- ONE STATE BEFORE THE LAST KEPT COMMAND

same_ends : {X : Type 0} (xs ys : List X) (x y : X) → xs ++ x ∷ [] ≡ ys ++ y ∷ [] → xs ≡ ys
same_ends [] [] x y e = refl
same_ends [] (z ∷ ys) x y e = absurd (omega (arith, ap length e, length-append ys (y ∷ [])))
same_ends (z ∷ xs) [] x y e = absurd (omega (arith, ap length e, length-append xs (x ∷ [])))
same_ends (z ∷ xs) (w ∷ ys) x y e =
    let head : z ≡ w = cc in
    let tail : xs ++ x ∷ [] ≡ ys ++ y ∷ [] = cc in
    ap (λ q. q ∷ xs) head ∙ ap (λ q. w ∷ q) (same_ends xs ys x y tail)

pub one_before : {s t u : State} → IsBeforeLast s t → IsBeforeLast s u → t ≡ u
one_before {u = u} a b =
    let fronts : a.front ≡ b.front = same_ends a.front b.front a.last b.last (sym a.kept ∙ b.kept) in
    one_replay sound_beginning a.replayed (subst (λ es. Replays empty es u) (sym fronts) b.replayed)

-- SOUND STATES
pub sound_replay : {s t : State} {es : List Entry} → Replays s es t → IsSound s → IsSound t
sound_replay none sound = sound
sound_replay (next r h k p) sound = sound_replay p (sound_forward h sound)

pub sound_effect : {s t : State} {bytes : List ℕ} {loads : List Load} {r : Reply} → HasEffect s bytes loads r t → IsSound s → IsSound t
sound_effect (forward h) sound = sound_forward h sound
sound_effect (by_files x files a is h) sound = sound_forward h sound
sound_effect (unread_files x fault a is) sound = sound
sound_effect (took_back k b) sound = sound_replay b.replayed sound_beginning
sound_effect (nothing_kept k e) sound = sound
sound_effect (undid k b o) sound = sound_replay b.replayed sound_beginning
sound_effect (began k b o) sound = sound
sound_effect (emptied k) sound = sound_beginning

-- WHAT IS TRUE OF EACH STATE stays so where commands that go forward keep it, given what is known of their replies, and where it
-- is true of a state from which a kept command led to one of which it is: then taking back keeps it too
module _ (P : State → Type 0) (Q : Reply → State → Type 0)
    (on : (s t : State) (e : Entry) (r : Reply) → GoesForward s e r t → Q r t → P s → P t)
    (before : (s t : State) (e : Entry) (r : Reply) → GoesForward s e r t → is_kept r ≡ true → P t → P s)
    (first : P empty) where
  one_kept : {s t : State} {e : Entry} → Replays t (e ∷ []) s → P s → P t
  one_kept (next r h k none) p = before _ _ _ _ h k p

  front_holds : {s t : State} → IsReplayed s → IsBeforeLast s t → P s → P t
  front_holds replayed a p =
      let there = goes_back a.front a.last replayed a.kept in
      subst P (one_before there.1 a) (one_kept there.2 p)

  pub holds_on : {s t : State} {bytes : List ℕ} {loads : List Load} {r : Reply} → IsReplayed s → HasEffect s bytes loads r t → Q r t → P s → P t
  holds_on replayed (forward h) q p = on _ _ _ _ h q p
  holds_on replayed (by_files x files a is h) q p = on _ _ _ _ h q p
  holds_on replayed (unread_files x fault a is) q p = p
  holds_on replayed (took_back k b) q p = front_holds replayed b p
  holds_on replayed (nothing_kept k e) q p = p
  holds_on replayed (undid k b o) q p = front_holds replayed b p
  holds_on replayed (began k b o) q p = p
  holds_on replayed (emptied k) q p = first
