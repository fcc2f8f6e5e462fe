-- How a replay goes on behind the commands that are kept.
use Rattle.std.proofs.Common.{◌≡◌, ◌≤◌, ◌<◌, ◌+◌, ℕ, Bool, true, false, List, [], ◌∷◌, ◌++◌, length, take, drop, ◌-◌, refl, sym, ap, ◌∙◌, subst, arith, append_assoc}
use Rattle.std.specs.List.{concat}
use Rattle.std.proofs.lemmas.List.{append-nil, length-append, take_at}
use Rattle.ab_io.specs.Replays.{Test, SameTest, IsCommand, TakesLast}
use Rattle.ab_lex.specs.Commands.{Item, command, long, ItemsOf}
use Rattle.ab_lex.specs.PendingText.{Pending, Awaits, SameItems, NextItem, ItemsFrom}
use Rattle.ab_lex.proofs.Awaiting.{items_after, awaits_there, items_same, items_next, items_none}
use Rattle.ab_edit.specs.Prefixes.{place_of, BeginsWith, IsMore}
use Rattle.ab_edit.specs.Moves.{ends_from, count_behind}
use Rattle.ab_edit.specs.State.{IsInStep, IsGoing, IsHalted, IsOneMore, last_of}
use Rattle.ab_edit.proofs.Lists.{map_both}
use Rattle.ab_edit.proofs.Fronts.{commands_behind, front, items_left, left_is, one_list}
use Rattle.ab_edit.proofs.Ends.{place_more, ends_one_more, IsGoingBack, back_one, count_last}
use Rattle.ab_edit.proofs.Honest.{honest_on, honest_more}

last_of_ends : (place : ℕ) (ks : List (List ℕ)) → last_of (place ∷ ends_from place ks) ≡ place + length (concat ks)
last_of_ends place [] = omega arith
last_of_ends place (k ∷ ks) = let e = last_of_ends (place + length k) ks in e ∙ omega (arith, length-append {A = ℕ} k (concat ks))

-- the last end is the place
pub last_is_place : (ks : List (List ℕ)) → last_of (ends_from 0 ks) ≡ place_of ks
last_is_place [] = refl
last_is_place (k ∷ ks) = last_of_ends 0 (k ∷ ks) ∙ omega arith

pub follow_more : (text : List ℕ) (ks : List (List ℕ)) (c : List ℕ) (is : List Item) → BeginsWith text ks (command c ∷ is) → BeginsWith text (ks ++ c ∷ []) is
follow_more text ks c is h = subst (λ q. ItemsOf text q) (sym (map_both ks (c ∷ []) is)) h

-- the next command of the text
pub record Next (text ends : List ℕ) (ks : List (List ℕ)) (c : List ℕ) (p q : Pending) : Type 0 where
  pub is_command : IsCommand c
  pub within : last_of ends + length c ≤ length text
  pub begins : BeginsWith text (ks ++ c ∷ []) (items_after q [])
  pub fewer : length (items_after q []) < length (items_after p [])
  pub before : BeginsWith text ks (command c ∷ items_after q [])

pub next_of : (t : Test) (text ends : List ℕ) (ks : List (List ℕ)) (c : List ℕ) (p q : Pending) → IsGoing t text ends ks p → NextItem p (command c) q → Next text ends ks c p q
next_of t text ends ks c p q g h =
    let e : items_after p [] ≡ command c ∷ items_after q [] = items_next p q (command c) h [] in
    let before : BeginsWith text ks (command c ∷ items_after q []) = subst (λ i. BeginsWith text ks i) e g.begins in
    let follow = follow_more text ks c (items_after q []) before in
    let f = front text (ks ++ c ∷ []) (items_after q []) follow in
    let parts = ap length f.parts in
    let count = ap length e in
    let place : last_of ends ≡ place_of ks = ap last_of g.ends_are ∙ last_is_place ks in
    record {
      is_command = (commands_behind ks (c ∷ []) f.commands).0;
      within = omega (arith, place, place_more ks c, length-append {A = ℕ} (concat (ks ++ c ∷ [])) f.left);
      begins = follow;
      fewer = omega arith;
      before = before;
    }

pub in_step : (t : Test) (text ends : List ℕ) (ks : List (List ℕ)) (p : Pending) → IsGoing t text ends ks p → IsInStep t text ends ks
in_step t text ends ks p g = record { ends_are = g.ends_are; prefix = (items_after p [], g.begins); honest = g.honest }

pub going_more : (t u : Test) (text ends : List ℕ) (ks : List (List ℕ)) (c : List ℕ) (p q : Pending) (end : ℕ) → IsGoing t text ends ks p → Next text ends ks c p q → SameTest t u → end ≡ last_of ends + length c
    → ((answer : Bool) → t ks c answer → answer ≡ true) → IsGoing u text (ends ++ end ∷ []) (ks ++ c ∷ []) q
going_more t u text ends ks c p q end g n s e told =
    let place : end ≡ place_of (ks ++ c ∷ []) = omega (arith, e, ap last_of g.ends_are, last_is_place ks, place_more ks c) in
    record {
      ends_are = ap (λ x. x ++ end ∷ []) g.ends_are ∙ (ap (λ x. ends_from 0 ks ++ x ∷ []) place ∙ sym (ends_one_more ks c));
      begins = n.begins;
      honest = honest_on t u (ks ++ c ∷ []) s (honest_more t ks c g.honest told);
    }

pub step_stays : (t u : Test) (text ends : List ℕ) (ks : List (List ℕ)) → SameTest t u → IsInStep t text ends ks → IsInStep u text ends ks
step_stays t u text ends ks s h = record { ends_are = h.ends_are; prefix = h.prefix; honest = honest_on t u ks s h.honest }

pub halted_there : (t u : Test) (text ends : List ℕ) (ks : List (List ℕ)) (c : List ℕ) (p q : Pending) → Next text ends ks c p q → SameTest t u → ((answer : Bool) → t ks c answer → answer ≡ false) → IsHalted u text ks
halted_there t u text ends ks c p q n s told = record { later = command c ∷ items_after q []; begins = n.before; halt = λ answer h. told answer ((s ks c answer).1 h) }

pub halted_at_long : (t : Test) (text ends : List ℕ) (ks : List (List ℕ)) (p q : Pending) → IsGoing t text ends ks p → NextItem p long q → IsHalted t text ks
halted_at_long t text ends ks p q g h =
    record { later = long ∷ items_after q []; begins = subst (λ i. BeginsWith text ks i) (items_next p q long h []) g.begins; halt = tt }

pub halted_at_end : (t : Test) (text ends : List ℕ) (ks : List (List ℕ)) (p q : Pending) → IsGoing t text ends ks p → Awaits q [] [] → SameItems p q → IsHalted t text ks
halted_at_end t text ends ks p q g none same =
    let e : items_after p [] ≡ [] = sym (items_same p q same []) ∙ items_none q none in
    record { later = []; begins = subst (λ i. BeginsWith text ks i) e g.begins; halt = tt }

-- what stood before one more was put at the end
pub popped : (xs ys : List ℕ) (e n : ℕ) → xs ≡ ys ++ e ∷ [] → n ≡ length xs → take (n - 1) xs ≡ ys
popped xs ys e n h l =
    let m : length ys ≡ n - 1 = omega (arith, ap length h, length-append {A = ℕ} ys (e ∷ [])) in
    ap (take (n - 1)) h ∙ take_at ys (e ∷ []) (n - 1) m

-- a splitter that is fed what stands behind the kept commands gives the items that follow them
pub going_first : (t : Test) (text ends : List ℕ) (ks : List (List ℕ)) (p : Pending) → IsInStep t text ends ks → p.text ≡ drop (last_of ends) text → p.in_long ≡ false → IsGoing t text ends ks p
going_first t text ends ks p h e f =
    let place : last_of ends ≡ place_of ks = ap last_of h.ends_are ∙ last_is_place ks in
    let k = front text ks h.prefix.0 h.prefix.1 in
    let left : p.text ++ [] ≡ k.left = append-nil p.text ∙ (e ∙ (ap (λ n. drop n text) place ∙ left_is k)) in
    let there : ItemsOf (p.text ++ []) (items_after p []) = subst (λ b. ItemsFrom b (p.text ++ []) (items_after p [])) f (awaits_there p []) in
    let here : ItemsOf k.left (items_after p []) = subst (λ s. ItemsOf s (items_after p [])) left there in
    let same : h.prefix.0 ≡ items_after p [] = one_list k.left h.prefix.0 (items_after p []) (items_left k) here in
    record { ends_are = h.ends_are; begins = subst (λ i. BeginsWith text ks i) same h.prefix.1; honest = h.honest }

-- the last end is in the text
pub last_within : (t : Test) (text ends : List ℕ) (ks : List (List ℕ)) → IsInStep t text ends ks → last_of ends ≤ length text
last_within t text ends ks h =
    let place : last_of ends ≡ place_of ks = ap last_of h.ends_are ∙ last_is_place ks in
    let k = front text ks h.prefix.0 h.prefix.1 in
    let parts = ap length k.parts in
    omega (arith, length-append {A = ℕ} (concat ks) k.left)

pub more_one : (first old new : List (List ℕ)) → IsMore first old → IsOneMore old new → IsMore first new
more_one first old new m o = (m.0 ++ o.0 ∷ [], o.1 ∙ (ap (λ q. q ++ o.0 ∷ []) m.1 ∙ append_assoc first m.0 (o.0 ∷ [])))

-- the last kept command is taken back
pub record Backed (start : ℕ) (old now new : List (List ℕ)) (ends : List ℕ) : Type 0 where
  pub ends_are : ends ≡ ends_from 0 new
  pub back : IsGoingBack start old new
  pub counted : count_behind start now ≡ count_behind start new + 1

pub back_step : (b : Bool) (start n : ℕ) (old now new : List (List ℕ)) (ends ends' : List ℕ) → TakesLast b now new → ends ≡ ends_from 0 now → start < last_of ends → n ≡ length ends → ends' ≡ take (n - 1) ends → IsGoingBack start old now → Backed start old now new ends'
back_step true start n old now new ends ends' (c, e) are l count front h =
    let place : last_of ends ≡ place_of now = ap last_of are ∙ last_is_place now in
    let behind : start < place_of now = omega arith in
    let same : place_of now ≡ place_of (new ++ c ∷ []) = ap place_of e in
    let split : ends ≡ ends_from 0 new ++ place_of (new ++ c ∷ []) ∷ [] = are ∙ (ap (ends_from 0) e ∙ ends_one_more new c) in
    record {
      ends_are = front ∙ popped ends (ends_from 0 new) (place_of (new ++ c ∷ [])) n split count;
      back = back_one start old now new c h e behind;
      counted = ap (count_behind start) e ∙ count_last start new c (omega arith);
    }
back_step false start n old now new ends ends' (none, also) are l count front h =
    let place : last_of ends ≡ 0 = ap last_of are ∙ ap (λ q. last_of (ends_from 0 q)) none in
    absurd (omega arith)
