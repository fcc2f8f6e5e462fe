-- THE STACK OF A WALK: the places whose ways are being gone, and which leaves are still to come. Public contracts don't speak of it.
use Rattle.std.specs.Prelude.{◌≡◌, ℕ, ◌+◌, ◌<◌, List, [], ◌∷◌, ◌++◌, length, Option, Some, None}
use Rattle.ab_term.specs.Variables.{Substitution}
use Rattle.ab_norm.specs.ab_store.specs.declared.node.TermId.{TermId}
use Rattle.ab_norm.specs.ab_store.specs.declared.mark.Mark.{Mark}
use Rattle.ab_norm.specs.ab_store.specs.Marks.{HasMark}
use Rattle.ab_unifiers.specs.Replacements.{Cell}
use Rattle.ab_logic.specs.Worlds.{IsWorld}
use Rattle.ab_logic.specs.declared.world.World.{World}
use Rattle.ab_search_trees.specs.Goals.{Goal, Now}
use Rattle.ab_search_trees.specs.Ways.{Way}
use Rattle.ab_search_trees.specs.Tree.{Leaf, now_after}
use Rattle.ab_next_ways.specs.ab_search_ways.specs.declared.way.Place.{Place}
use Rattle.ab_walk.specs.Places.{goals_read, IsSearched}
use Rattle.ab_walk.specs.Told.{Tells, UnlessFound, IsAsBefore}
use Rattle.ab_walk.specs.Paths.{HoldsPath, WhereFound, LeadToAnswer}
use Rattle.ab_walk.specs.Standing.{IsOpen, IsLater, IsAgain, IsLed}
use Rattle.ab_walk.specs.declared.frames.Frame.{Frame}
use Rattle.ab_walk.specs.declared.seen_leaves.Seen.{Seen}
use Rattle.ab_walk.specs.declared.walk.Told.{Told}
use Rattle.ab_walk.specs.declared.walk.Told.TheVariants.{Not}

-- the first world was that of the mark, which counts all of it
pub record IsBefore (u : World) (m : Mark) (w : World) : Type 0 where
  pub world : IsWorld u
  pub later : IsLater u w
  pub has : HasMark u.store m
  pub bindings : m.bindings ≡ length u.store.bindings
  pub nodes : m.nodes ≡ length u.store.nodes
  pub cells : m.cells ≡ length u.store.cells

-- WHERE A WALK BEGAN: in this world, where these goals are left
pub record Beginning : Type 0 where
  pub world : World
  pub now : Now
  pub goals : List Goal

-- the walk of a place
abbrev pub beginning_at : World → List TermId → Now → Place → Beginning
beginning_at w base now p = record { world = w; now = now; goals = goals_read w base p.goals }

-- THE PLACES LEAD to this one, which stands in the world: from each, in a world before, a way was taken to the next
pub data LeadTo (first : Beginning) (base : List TermId) : World → List Frame → Place → Now → Type 0 where
  at_first : {w : World} {p : Place} → goals_read w base p.goals ≡ first.goals → LeadTo first base w [] p first.now
  led_on : {u w : World} {fs : List Frame} {now : Now} (f : Frame) (p : Place) (way : Way) (more : List (Cell (List ℕ))) (q : Substitution ℕ (List ℕ))
      → IsLater u w → LeadTo first base u fs f.place now → IsSearched u base f.place now → IsLed u w base now f.place f.cursor way more q p
      → LeadTo first base w (fs ++ f ∷ []) p (now_after now way more q)

-- THESE LEAVES ARE STILL TO COME at the places, in so many turns: those of the last one, and then those of the others, each in the
-- world before the way to the next was made; and the places lead from each to the next
pub data IsStack (first : Beginning) (base : List TermId) : World → List Frame → List Leaf → ℕ → Type 0 where
  no_frame : {w : World} → IsAgain first.world w → IsStack first base w [] [] 0
  a_frame : {u w : World} {fs : List Frame} {back : List Leaf} {n : ℕ} (f : Frame) (now : Now) (front : List Leaf) (m : ℕ)
      → IsBefore u f.mark w → IsOpen w base now f.place f.cursor front m → LeadTo first base w fs f.place now → IsStack first base u fs back n
      → IsStack first base w (fs ++ f ∷ []) (front ++ back) (m + n)

-- what was seen tells these leaves
abbrev pub IsTold : List Leaf → Seen → Type 0
IsTold done seen = Tells done (Not seen.stuck seen.blind)

-- THE WALK STANDS SO: all leaves are those that were seen, and then those that are still to come, in so many turns
pub record IsUnderway (first : Beginning) (base : List TermId) (ls : List Leaf) (n : ℕ) (w : World) (frames : List Frame) (seen : Seen) : Type 0 where
  pub done : List Leaf
  pub left : List Leaf
  pub all : ls ≡ done ++ left
  pub stack : IsStack first base w frames left n
  pub told : IsTold done seen

-- it goes on, with fewer turns to come, or tells the leaves, and where the goals were closed the places stand on the path, and lead
-- from where the walk began to an answer
abbrev pub GoesOn : Beginning → List TermId → List Leaf → ℕ → World → List Frame → Seen → Option Told → Type 0
GoesOn first base ls n w frames seen None = (m : ℕ) × (m < n) × IsUnderway first base ls m w frames seen
GoesOn first base ls n w frames seen (Some told) =
    Tells ls told × UnlessFound told (IsAsBefore first.world w) × WhereFound told (HoldsPath w.types w.store frames) × WhereFound told (LeadToAnswer w base first.now first.goals frames)
