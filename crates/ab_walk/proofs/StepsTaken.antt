-- ONE STEP of a walk: where it stands behind each turn.
use Rattle.std.proofs.Common.{◌≡◌, ℕ, ◌+◌, ◌<◌, List, [], ◌∷◌, ◌++◌, length, Bool, false, Some, None, refl, sym, ◌∙◌, ap, subst, append_assoc, append-nil, arith}
use Rattle.std.proofs.lemmas.Bool.{false≢true}
use Rattle.ab_term.proofs.Lists.{Contains-none}
use Rattle.ab_norm.specs.ab_store.specs.declared.node.TermId.{TermId}
use Rattle.ab_norm.specs.ab_store.specs.declared.mark.Mark.{Mark}
use Rattle.ab_norm.specs.ab_store.specs.Marks.{HasMark}
use Rattle.ab_logic.specs.Worlds.{IsWorld}
use Rattle.ab_logic.specs.declared.world.World.{World}
use Rattle.ab_search_trees.specs.Tree.{Leaf, stuck_at, blind, now_after}
use Rattle.ab_next_ways.specs.ab_search_ways.specs.declared.way.Place.{Place}
use Rattle.ab_next_ways.specs.declared.cursor.Cursor.{Cursor}
use Rattle.ab_next_ways.specs.declared.cursor.Cursor.TheVariants.{Start}
use Rattle.ab_walk.specs.Places.{HasLeaves}
use Rattle.ab_walk.specs.Told.{Tells}
use Rattle.ab_walk.specs.Standing.{IsLater, IsAgain, blind_if, IsTurn}
use Rattle.ab_walk.specs.Stacks.{Beginning, beginning_at, at_first, led_on, IsBefore, IsStack, no_frame, a_frame, IsTold, IsUnderway, GoesOn}
use Rattle.ab_walk.specs.declared.frames.Frame.{Frame}
use Rattle.ab_walk.specs.declared.seen_leaves.Seen.{Seen}
use Rattle.ab_walk.specs.declared.turns.Turn.TheVariants.{Closed, Ended, Nothing, Stuck, Ahead}
use Rattle.ab_walk.specs.declared.walk.Told.TheVariants.{Found, Not}
use Rattle.ab_walk.proofs.Leading.{lead_later, way_there, closed_last}
use Rattle.ab_walk.proofs.PathsHeld.{path_there}
use Rattle.ab_walk.proofs.Seeing.{found_seen}
use Rattle.ab_walk.proofs.Stacking.{HasTop, top, none, stack_later, with_top}
use Rattle.ab_walk.proofs.TurnsTaken.{starts}
use Rattle.ab_walk.proofs.WorldsAgain.{later_itself, later_on, again_itself, before_on, with_types, types_again, types_before}

module _ (first : Beginning) (base : List TermId) (ls : List Leaf) (n : ℕ) where
  -- no place is left
  pub all_seen : (w : World) (seen : Seen) → IsUnderway first base ls n w [] seen → GoesOn first base ls n w [] seen (Some (Not seen.stuck seen.blind))
  all_seen w seen u =
      let e = none first base u.stack refl in
      (subst (λ l. IsTold l seen) (sym (u.all ∙ ap (λ l. u.done ++ l) e.0 ∙ append-nil u.done)) u.told, e.1.same, tt, tt)

  pub underway_later : (w : World) (frames : List Frame) (seen : Seen) → IsUnderway first base ls n w frames seen → IsLater first.world w
  underway_later w frames seen u = stack_later first base u.stack

  -- A TURN AT THE LAST PLACE, which leads to the second world
  module _ (w v : World) (is : IsWorld w) (later : IsLater w v) (fs : List Frame) (f : Frame) (c : Cursor) (seen : Seen) (u : IsUnderway first base ls n w (fs ++ f ∷ []) seen) where
    pub last : HasTop first base w fs f u.left n
    last = top first base u.stack fs f refl

    abbrev pub moved : Frame
    moved = record { place = f.place; cursor = c; mark = f.mark }

    whole : ls ≡ u.done ++ (last.front ++ last.back)
    whole = u.all ∙ ap (λ l. u.done ++ l) last.all

    pub then_later : IsLater first.world v
    then_later = later_on first.world w v (stack_later first base u.stack) later

    -- the walk goes on, with fewer turns to come
    abbrev Fewer : World → List Frame → Seen → Type 0
    Fewer x gs next = (m : ℕ) × (m < n) × IsUnderway first base ls m x gs next

    -- the goals are closed
    pub closed_there : IsTurn w base last.now f.place c v last.front last.here Closed → GoesOn first base ls n v (fs ++ moved ∷ []) seen (Some Found)
    closed_there t = (
      subst (λ l. Tells l Found) (sym (whole ∙ ap (λ l. u.done ++ (l ++ last.back)) t.1)) (found_seen u.done last.back seen.stuck seen.blind last.now u.told),
      tt,
      path_there first base w v is later fs f moved refl u.stack,
      (last.now, way_there first base moved [] v last.now refl later last.leads last.standing.0 (closed_last base w v later last.now moved last.standing.0 t.0)),
    )

    -- the ways are over, and the place is left
    pub before_last : IsBefore last.below f.mark v
    before_last = before_on last.below w v f.mark last.before later

    pub ended_there : (here : Bool) → IsTurn w base last.now f.place c v last.front last.here (Ended here) → (next : Seen) → (IsTold u.done seen → IsTold (u.done ++ blind_if here) next)
        → (x : World) (gs : List Frame) → IsStack first base x gs last.back last.others → Fewer x gs next
    ended_there here t next note x gs s = (
      last.others,
      (let some = t.1 in let all = last.turns in omega (arith, some, all)),
      record {
        done = u.done ++ blind_if here;
        left = last.back;
        all = whole ∙ ap (λ l. u.done ++ (l ++ last.back)) t.0 ∙ sym (append_assoc u.done (blind_if here) last.back);
        stack = s;
        told = note u.told;
      },
    )

    -- the world is cut back
    module _ (x : World) (again : IsAgain w x) (types : x.types ≡ v.types) where
      pub nothing_there : IsTurn w base last.now f.place c v last.front last.here Nothing → Fewer x (fs ++ moved ∷ []) seen
      nothing_there t = (
        t.0 + last.others,
        (let less = t.1 in let all = last.turns in omega (arith, less, all)),
        record {
          done = u.done;
          left = last.front ++ last.back;
          all = whole;
          stack = with_top first base w x fs f moved u.left last.front n t.0 last again refl refl (t.2 x again types);
          told = u.told;
        },
      )

      pub stuck_there : (i : ℕ) → IsTurn w base last.now f.place c v last.front last.here (Stuck i) → (next : Seen) → (IsTold u.done seen → IsTold (u.done ++ stuck_at i ∷ []) next)
          → Fewer x (fs ++ moved ∷ []) next
      stuck_there i t next note = (
        t.2 + last.others,
        (let less = t.3 in let all = last.turns in omega (arith, less, all)),
        record {
          done = u.done ++ stuck_at i ∷ [];
          left = t.0 ++ last.back;
          all = whole ∙ ap (λ l. u.done ++ (l ++ last.back)) t.1 ∙ sym (append_assoc u.done (stuck_at i ∷ []) (t.0 ++ last.back));
          stack = with_top first base w x fs f moved u.left t.0 n t.2 last again refl refl (t.4 x again types);
          told = note u.told;
        },
      )

    -- the place ahead is the last one
    pub ahead_there : (m : Mark) → IsBefore w m v → (q : Place) → IsTurn w base last.now f.place c v last.front last.here (Ahead q)
        → Fewer v ((fs ++ moved ∷ []) ++ record { place = q; cursor = Start; mark = m } ∷ []) seen
    ahead_there m b q t =
        let x = with_types w v m b in
        let again = types_again w v m b in
        let below : IsStack first base x (fs ++ moved ∷ []) (t.1 ++ last.back) (t.4 + last.others) = with_top first base w x fs f moved u.left t.1 n t.4 last again refl refl (t.10 x again refl) in (
          t.3 + (t.4 + last.others),
          (let less = t.5 in let all = last.turns in omega (arith, less, all)),
          record {
            done = u.done;
            left = t.0 ++ (t.1 ++ last.back);
            all = whole ∙ ap (λ l. u.done ++ (l ++ last.back)) t.2 ∙ ap (λ l. u.done ++ l) (append_assoc t.0 t.1 last.back);
            stack = a_frame (record { place = q; cursor = Start; mark = m }) (now_after last.now t.6 t.7 t.8) t.0 t.3 (types_before w v m b) t.9
                (led_on moved q t.6 t.7 t.8 (types_before w v m b).later (lead_later first base w x again.later last.standing.0 last.leads) (t.10 x again refl).0 (t.11 x again refl)) below;
            told = u.told;
          },
        )

-- A WALK BEGINS at a place
module _ (base : List TermId) (w : World) (is : IsWorld w) (m : Mark) (has : HasMark w.store m) (bindings : m.bindings ≡ length w.store.bindings) (nodes : m.nodes ≡ length w.store.nodes) (cells : m.cells ≡ length w.store.cells) where
  pub at_mark : IsBefore w m w
  at_mark = record { world = is; later = later_itself w is; has = has; bindings = bindings; nodes = nodes; cells = cells }

  pub begun : (p : Place) (ls : List Leaf) (n : ℕ) (h : HasLeaves w base p ls n)
      → IsUnderway (beginning_at w base h.0 p) base ls (n + 0) w ([] ++ record { place = p; cursor = Start; mark = m } ∷ []) (record { stuck = None; blind = false })
  begun p ls n h = record {
    done = [];
    left = ls ++ [];
    all = sym (append-nil ls);
    stack = a_frame (record { place = p; cursor = Start; mark = m }) h.0 ls n at_mark (starts w is base p ls n h) (at_first refl) (no_frame (again_itself w is));
    told = (refl, ((λ b. absurd (false≢true b)), (λ c. absurd (Contains-none blind c))));
  }
