-- WHAT THE PLACES OF A STACK NAME IS THERE.
use Rattle.std.specs.List.{All}
use Rattle.std.proofs.Common.{◌≡◌, ℕ, List, [], ◌∷◌, ◌++◌, sym, subst}
use Rattle.std.proofs.lemmas.List.Elements.{All-nil, All-cons, All-head, All-tail, All-append, All-weaker}
use Rattle.ab_norm.specs.ab_store.specs.declared.node.TermId.{TermId}
use Rattle.ab_norm.specs.ab_store.specs.Trees.{HoldsCell}
use Rattle.ab_unify.specs.StoreChanges.{IsFree}
use Rattle.ab_logic.specs.Worlds.{IsWorld}
use Rattle.ab_logic.specs.declared.world.World.{World}
use Rattle.ab_search_trees.specs.Goals.{Now}
use Rattle.ab_search_trees.specs.Tree.{Leaf}
use Rattle.ab_next_ways.specs.ab_search_ways.specs.Answers.{IsNamedGoal, HoldsPlace}
use Rattle.ab_next_ways.specs.ab_search_ways.specs.GoalReadings.{HoldsGoal, IsTypedGoal}
use Rattle.ab_next_ways.specs.ab_search_ways.specs.declared.goal.Goal.{Goal as Kept}
use Rattle.ab_next_ways.specs.ab_search_ways.specs.declared.way.Place.{Place}
use Rattle.ab_next_ways.specs.ab_search_ways.proofs.PlacesKept.{place_later}
use Rattle.ab_walk.specs.Places.{IsSearched}
use Rattle.ab_walk.specs.Paths.{HoldsPath}
use Rattle.ab_walk.specs.Standing.{IsLater}
use Rattle.ab_walk.specs.Stacks.{Beginning, IsStack, no_frame, a_frame}
use Rattle.ab_walk.specs.declared.frames.Frame.{Frame}
use Rattle.ab_walk.proofs.TypedWays.{goals_typed}

module _ (w : World) (is : IsWorld w) (base : List TermId) where
  named : (ks : List Kept) → All (HoldsGoal w) ks → All (IsTypedGoal w.types w.store) ks → All (IsNamedGoal w.types w.store) ks
  named ks held typed = λ i d l. record { typed = typed i d l; constants = (held i d l).constants }

  pub place_held : (p : Place) (now : Now) → IsSearched w base p now → HoldsPlace w.types w.store p
  place_held p now s = record {
    goals = named p.goals s.place.held (goals_typed w is base now p.goals s.tasks s.place.held);
    flexible = All-weaker (IsFree w.store) (HoldsCell w.store) (λ c h. h.0) p.flexible.items s.place.variables.free;
    answer = s.answer;
  }

abbrev HoldsFrame : World → Frame → Type 0
HoldsFrame w f = HoldsPlace w.types w.store f.place

pub path_held : (first : Beginning) (base : List TermId) {w : World} {fs : List Frame} {ls : List Leaf} {n : ℕ} → IsWorld w → IsStack first base w fs ls n → HoldsPath w.types w.store fs
path_held first base is (no_frame {w = w} a) = All-nil (HoldsFrame w)
path_held first base is (a_frame {u = u} {w = w} {fs = fs} f now front m b o l s) =
    All-append (HoldsFrame w) fs (f ∷ [])
    (All-weaker (HoldsFrame u) (HoldsFrame w) (λ g h. place_later u w b.later.grows g.place h) fs (path_held first base b.world s))
    (All-cons (HoldsFrame w) f [] (place_held w is base f.place now o.0) (All-nil (HoldsFrame w)))

-- in a later world, with the last place's search elsewhere
path_with : (w : World) (fs : List Frame) (f g : Frame) → g.place ≡ f.place → HoldsPath w.types w.store (fs ++ f ∷ []) → HoldsPath w.types w.store (fs ++ g ∷ [])
path_with w [] f g e h = All-cons (HoldsFrame w) g [] (subst (HoldsPlace w.types w.store) (sym e) (All-head (HoldsFrame w) f [] h)) (All-nil (HoldsFrame w))
path_with w (x ∷ fs) f g e h = All-cons (HoldsFrame w) x (fs ++ g ∷ []) (All-head (HoldsFrame w) x (fs ++ f ∷ []) h) (path_with w fs f g e (All-tail (HoldsFrame w) x (fs ++ f ∷ []) h))

pub path_there : (first : Beginning) (base : List TermId) (w v : World) → IsWorld w → IsLater w v → (fs : List Frame) (f g : Frame) {ls : List Leaf} {n : ℕ} → g.place ≡ f.place → IsStack first base w (fs ++ f ∷ []) ls n → HoldsPath v.types v.store (fs ++ g ∷ [])
path_there first base w v is later fs f g e s =
    path_with v fs f g e (All-weaker (HoldsFrame w) (HoldsFrame v) (λ h p. place_later w v later.grows h.place p) (fs ++ f ∷ []) (path_held first base is s))
