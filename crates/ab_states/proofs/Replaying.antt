-- The kept commands of a state lead to it: replays, one behind another, and behind each effect.
use Rattle.std.proofs.Common.{◌≡◌, ◌⊎◌, ℕ, true, false, List, [], ◌∷◌, ◌++◌, length, refl, sym, ◌∙◌, ap, subst, arith, append_assoc, append-nil, length-append, inl, inr}
use Rattle.ab_sigmod.specs.FileLoads.{Load}
use Rattle.ab_states.specs.State.{State, Entry, plain, empty}
use Rattle.ab_formulas.specs.Declarations.{names_at}
use Rattle.ab_states.specs.Reply.{Reply, done, is_kept}
use Rattle.ab_states.specs.ForwardEffects.{assumed_after, concluding, GoesForward, unread, declined, declared, specified, item_declined, specified_twice, stated, showed, ended, switched, given_up, denied, led, proved}
use Rattle.ab_states.specs.Replay.{Replays, none, next, IsReplayed}
use Rattle.ab_states.specs.StateEffects.{IsBeforeLast, HasEffect, forward, by_files, unread_files, took_back, nothing_kept, undid, began, emptied}

-- a completed theorem's command is kept, whatever it assumes
pub done_kept : (x : List ℕ) (ys : List (List ℕ)) → is_kept (done x ys) ≡ true
done_kept x [] = refl
done_kept x (y ∷ ys) = refl

-- a command that goes forward stands behind those that are kept, or leaves the state
pub kept_by : {s t : State} {e : Entry} {reply : Reply} → GoesForward s e reply t
    → ((is_kept reply ≡ false) × (t ≡ s)) ⊎ ((is_kept reply ≡ true) × (t.kept ≡ s.kept ++ e ∷ []))
kept_by (unread c f) = inl (refl, refl)
kept_by (declined c r h d) = inl (refl, refl)
kept_by (declared c more h d) = inr (refl, refl)
kept_by (specified x files more h n d) = inr (refl, refl)
kept_by (item_declined x files r h n d) = inl (refl, refl)
kept_by (specified_twice x h n) = inl (refl, refl)
kept_by (stated x e F h n d) = inr (refl, refl)
kept_by (showed x F h e) = inl (refl, refl)
kept_by (ended h) = inl (refl, refl)
kept_by (switched on h) = inr (refl, refl)
kept_by (given_up h) = inr (refl, refl)
kept_by (denied l c a t gs r f d) = inl (refl, refl)
kept_by (led l c a t gs ps h hs f m e) = inr (refl, refl)
kept_by {s = s} (proved l c a t gs ps f m e) = inr (done_kept a.name (names_at (concluding (assumed_after s a t c) a s).declarations (assumed_after s a t c)), refl)

-- a command that is kept stands last
stands_last : {s t : State} {e : Entry} {reply : Reply} → GoesForward s e reply t → is_kept reply ≡ true → t.kept ≡ s.kept ++ e ∷ []
stands_last h k =
    elim (kept_by h) [
      | inl a ↦ let both : true ≡ false = sym k ∙ a.0 in absurd (cc)
      | inr a ↦ a.1
    ]

pub replays_more : {s t u : State} {xs ys : List Entry} → Replays s xs t → Replays t ys u → Replays s (xs ++ ys) u
replays_more none q = q
replays_more (next reply h k p) q = next reply h k (replays_more p q)

pub replays_split : {s u : State} (xs ys : List Entry) → Replays s (xs ++ ys) u → (t : State) × Replays s xs t × Replays t ys u
replays_split {s = s} [] ys p = (s, none, p)
replays_split (x ∷ xs) ys (next reply h k p) = let rest = replays_split xs ys p in (rest.0, next reply h k rest.1, rest.2)

-- what is replayed is kept
pub replays_keep : {s t : State} {xs : List Entry} → Replays s xs t → t.kept ≡ s.kept ++ xs
replays_keep {s = s} none = sym (append-nil s.kept)
replays_keep {s = s} (next {e = e} {es = es} reply h k p) = replays_keep p ∙ ap (λ ks. ks ++ es) (stands_last h k) ∙ append_assoc s.kept (e ∷ []) es

-- THE STATE BEFORE THE LAST KEPT COMMAND is the replay of what it keeps
pub front_replayed : {s t : State} → IsBeforeLast s t → IsReplayed t
front_replayed {t = t} b = subst (λ es. Replays empty es t) (sym (replays_keep b.replayed)) b.replayed

pub forward_replayed : {s t : State} {e : Entry} {reply : Reply} → GoesForward s e reply t → IsReplayed s → IsReplayed t
forward_replayed {t = t} {reply = reply} h p =
    elim (kept_by h) [
      | inl a ↦ subst IsReplayed (sym a.1) p
      | inr a ↦ subst (λ es. Replays empty es t) (sym a.1) (replays_more p (next reply h a.0 none))
    ]

-- and so is each state behind an effect
pub replays_on : {s t : State} {bytes : List ℕ} {loads : List Load} {reply : Reply} → HasEffect s bytes loads reply t → IsReplayed s → IsReplayed t
replays_on (forward h) p = forward_replayed h p
replays_on (by_files x files a i h) p = forward_replayed h p
replays_on (unread_files x fault a i) p = p
replays_on (took_back k b) p = front_replayed b
replays_on (nothing_kept k e) p = p
replays_on (undid k b o) p = front_replayed b
replays_on (began k b o) p = p
replays_on (emptied k) p = none

-- WHERE A COMMAND IS KEPT there is a state to go back to, and the command leads from there to here
pub goes_back : {s : State} (front : List Entry) (last : Entry) → IsReplayed s → s.kept ≡ front ++ last ∷ [] → (t : State) × IsBeforeLast s t × Replays t (last ∷ []) s
goes_back {s = s} front last p e =
    let halves = replays_split front (last ∷ []) (subst (λ es. Replays empty es s) e p) in
    (halves.0, record { front = front; last = last; kept = e; replayed = halves.1 }, halves.2)

-- no list with one more behind it is empty
pub some_kept : {s t : State} → IsBeforeLast s t → s.kept ≡ [] → ⊥
some_kept b e = omega (arith, ap length (sym b.kept ∙ e), length-append b.front (b.last ∷ []))
