-- THE STACK of a walk: its last place, and what stays where the world is the same but for types and room.
use Rattle.std.proofs.Common.{◌≡◌, ℕ, ◌+◌, List, [], ◌∷◌, ◌++◌, refl, sym, subst}
use Rattle.ab_norm.specs.ab_store.specs.declared.node.TermId.{TermId}
use Rattle.ab_logic.specs.Worlds.{IsWorld}
use Rattle.ab_logic.specs.declared.world.World.{World}
use Rattle.ab_search_trees.specs.Goals.{Now}
use Rattle.ab_search_trees.specs.Tree.{Leaf}
use Rattle.ab_next_ways.specs.ab_search_ways.specs.declared.way.Place.{Place}
use Rattle.ab_walk.specs.Standing.{IsOpen, IsLater, IsAgain}
use Rattle.ab_walk.specs.Stacks.{Beginning, LeadTo, IsBefore, IsStack, no_frame, a_frame}
use Rattle.ab_walk.specs.declared.frames.Frame.{Frame}
use Rattle.ab_walk.proofs.LaterPlaces.{open_later}
use Rattle.ab_walk.proofs.Leading.{lead_later}
use Rattle.ab_walk.proofs.ListEnds.{not_empty, last_same}
use Rattle.ab_walk.proofs.WorldsAgain.{later_on, again_on, cells_again, before_on}

module _ (first : Beginning) (base : List TermId) where
  -- THE LAST PLACE, the world before it, and what is to come there and at the others
  pub record HasTop (w : World) (fs : List Frame) (f : Frame) (ls : List Leaf) (n : ℕ) : Type 0 where
    pub below : World
    pub now : Now
    pub front : List Leaf
    pub back : List Leaf
    pub all : ls ≡ front ++ back
    pub here : ℕ
    pub others : ℕ
    pub turns : n ≡ here + others
    pub before : IsBefore below f.mark w
    pub standing : IsOpen w base now f.place f.cursor front here
    pub leads : LeadTo first base w fs f.place now
    pub rest : IsStack first base below fs back others

  pub top : {w : World} {gs : List Frame} {ls : List Leaf} {n : ℕ} → IsStack first base w gs ls n → (fs : List Frame) (f : Frame) → gs ≡ fs ++ f ∷ [] → HasTop w fs f ls n
  top (no_frame a) fs f e = absurd (not_empty fs f (sym e))
  top (a_frame {u = u} {w = w} {fs = gs} {back = back} {n = n} h now front m b o l s) fs f e =
      let parts = last_same gs fs h f e in
      record {
        below = u;
        now = now;
        front = front;
        back = back;
        all = refl;
        here = m;
        others = n;
        turns = refl;
        before = subst (λ (k : Frame). IsBefore u k.mark w) parts.1 b;
        standing = subst (λ (k : Frame). IsOpen w base now k.place k.cursor front m) parts.1 o;
        leads = subst (λ (k : Frame). LeadTo first base w fs k.place now) parts.1 (subst (λ (l : List Frame). LeadTo first base w l h.place now) parts.0 l);
        rest = subst (λ (l : List Frame). IsStack first base u l back n) parts.0 s;
      }

  pub none : {w : World} {gs : List Frame} {ls : List Leaf} {n : ℕ} → IsStack first base w gs ls n → gs ≡ [] → (ls ≡ []) × IsAgain first.world w
  none (no_frame a) e = (refl, a)
  none (a_frame {fs = gs} h now front m b o l s) e = absurd (not_empty gs h e)

  pub stack_later : {w : World} {gs : List Frame} {ls : List Leaf} {n : ℕ} → IsStack first base w gs ls n → IsLater first.world w
  stack_later (no_frame a) = a.later
  stack_later (a_frame {u = u} {w = w} f now front m b o l s) = later_on first.world u w (stack_later s) b.later

  pub stack_again : (x : World) {w : World} {gs : List Frame} {ls : List Leaf} {n : ℕ} → IsWorld w → IsAgain w x → IsStack first base w gs ls n → IsStack first base x gs ls n
  stack_again x is h (no_frame {w = w} a) = no_frame (again_on first.world w x a h)
  stack_again x is h (a_frame {u = u} {w = w} f now front m b o l s) =
      a_frame f now front m (before_on u w x f.mark b h.later) (open_later w x h.later (cells_again w x is h) base now f.place f.cursor front m o) (lead_later first base w x h.later o.0 l) s

  -- the last place with another cursor
  pub with_top : (w x : World) (fs : List Frame) (f g : Frame) (ls ms : List Leaf) (n m : ℕ) (t : HasTop w fs f ls n) → IsAgain w x → g.mark ≡ f.mark → g.place ≡ f.place → IsOpen x base t.now g.place g.cursor ms m
      → IsStack first base x (fs ++ g ∷ []) (ms ++ t.back) (m + t.others)
  with_top w x fs f g ls ms n m t h mark place o =
      a_frame g t.now ms m (subst (λ m. IsBefore t.below m x) (sym mark) (before_on t.below w x f.mark t.before h.later)) o
      (subst (λ (p : Place). LeadTo first base x fs p t.now) (sym place) (lead_later first base w x h.later t.standing.0 t.leads)) t.rest
