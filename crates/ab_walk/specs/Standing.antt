-- Which leaves of a place are still to come, and in how many turns, by where the search of its first goal stands. Public contracts don't speak of it.
use Rattle.std.specs.Prelude.{◌≡◌, ℕ, suc, ◌+◌, ◌<◌, List, [], ◌∷◌, ◌++◌, map, length, Bool, cond}
use Rattle.ab_term.specs.Variables.{Substitution}
use Rattle.ab_norm.specs.ab_types.specs.Entries.{Table}
use Rattle.ab_norm.specs.ab_store.specs.declared.node.TermId.{TermId}
use Rattle.ab_unifiers.specs.Replacements.{Cell}
use Rattle.ab_formulas.specs.Declarations.{Declarations}
use Rattle.ab_logic.specs.WorldGrowth.{Grows}
use Rattle.ab_logic.specs.Worlds.{declarations_of}
use Rattle.ab_logic.specs.declared.world.World.{World}
use Rattle.ab_search_trees.specs.Goals.{Goal, Now, goal_under}
use Rattle.ab_search_trees.specs.Ways as trees
use Rattle.ab_search_trees.specs.Ways.{Way}
use Rattle.ab_search_trees.specs.Tree.{Leaf, found, stuck_at, blind, unseen, now_after}
use Rattle.ab_search_trees.proofs.Shows.{EachFine}
use Rattle.ab_search_trees.proofs.Walks.{WalkedBy}
use Rattle.ab_next_ways.specs.ab_search_ways.specs.GoalReadings.{goal_read}
use Rattle.ab_next_ways.specs.ab_search_ways.specs.declared.goal.Goal.{Goal as Kept}
use Rattle.ab_next_ways.specs.ab_search_ways.specs.declared.way.Place.{Place}
use Rattle.ab_next_ways.specs.Cursors.{AreLeft, HoldsCursor}
use Rattle.ab_next_ways.specs.Stages.{stage}
use Rattle.ab_next_ways.specs.declared.cursor.Cursor.{Cursor}
use Rattle.ab_next_ways.specs.declared.cursor.Cursor.TheVariants.{Start}
use Rattle.ab_walk.specs.Paths.{IsTaken, HasValuesFor}
use Rattle.ab_walk.specs.Places.{goals_read, IsSearched}
use Rattle.ab_walk.specs.Told.{IsAsBefore}
use Rattle.ab_walk.specs.declared.turns.Turn.{Turn}
use Rattle.ab_walk.specs.declared.turns.Turn.TheVariants.{Closed, Ended, Nothing, Stuck, Ahead}

-- THE LEAVES STILL TO COME from a goal with these goals behind, in so many turns: those on the ways left, and where the search is blind
pub record AreLeaves (D : Declarations) (now : Now) (types : Table) (g : Goal) (gs : List Goal) (c : Cursor) (ls : List Leaf) (n : ℕ) : Type 0 where
  pub passed : List Way
  pub ways : List Way
  pub among : trees.ways D now g ≡ passed ++ ways
  pub front : List Leaf
  pub left : AreLeft D now g types c ways
  pub fine : EachFine D now g ways
  pub turns : ℕ
  pub by : WalkedBy D now ways gs front turns
  pub all : ls ≡ front ++ unseen now g
  pub many : n ≡ suc (stage (length g.hypotheses) c + turns)

abbrev pub LeftAt : World → List TermId → Now → List Kept → Cursor → List Leaf → ℕ → Type 0
LeftAt w base now [] c ls n = ls ≡ found now ∷ []
LeftAt w base now (k ∷ ks) c ls n = HoldsCursor w base k c × AreLeaves (declarations_of w) now w.types (goal_read w base k) (goals_read w base ks) c ls n

-- those of the place, over these variables
abbrev pub IsOpen : World → List TermId → Now → Place → Cursor → List Leaf → ℕ → Type 0
IsOpen w base now p c ls n = IsSearched w base p now × LeftAt w base now p.goals c ls n

-- the second world came of the first: it grew, and declares the same
pub record IsLater (u w : World) : Type 0 where
  pub grows : Grows u w
  pub declared : declarations_of w ≡ declarations_of u

-- the second is the first again, but for types and room
pub record IsAgain (u w : World) : Type 0 where
  pub later : IsLater u w
  pub same : IsAsBefore u w

-- wherever the first world is again, with the types of the second
abbrev pub IsOpenAgain : World → World → List TermId → Now → Place → Cursor → List Leaf → ℕ → Type 0
IsOpenAgain old new base now p c ls n = (x : World) → IsAgain old x → x.types ≡ new.types → IsOpen x base now p c ls n

-- THE WAY LED from the place, which stands in the first world, to the next one, which stands in the second
pub record IsLed (u w : World) (base : List TermId) (now : Now) (p : Place) (c : Cursor) (way : Way) (more : List (Cell (List ℕ))) (q : Substitution ℕ (List ℕ)) (next : Place) : Type 0 where
  pub first : Kept
  pub behind : List Kept
  pub goals : p.goals ≡ first ∷ behind
  pub taken : IsTaken (declarations_of u) now (goal_read u base first) c way more q
  pub left : goals_read w base next.goals ≡ map (goal_under q) (way.goals ++ goals_read u base behind)
  pub values : HasValuesFor w way next

-- the same, wherever the first world is again
abbrev pub IsLedAgain : World → World → List TermId → Now → Place → Cursor → Way → List (Cell (List ℕ)) → Substitution ℕ (List ℕ) → Place → Type 0
IsLedAgain old new base now p c way more q next = (x : World) → IsAgain old x → x.types ≡ new.types → IsLed x new base now p c way more q next

abbrev pub blind_if : Bool → List Leaf
blind_if b = cond b (blind ∷ []) []

-- WHAT A TURN AT THE PLACE DID with the leaves that were still to come: it was the one of a closed goal; those of the ways were
-- over; none was passed; an equation outside the patterns was; or those of another place, to which a way led, come first. Fewer turns
-- are to come.
module _ (old : World) (base : List TermId) (now : Now) (p : Place) (c : Cursor) (new : World) (ls : List Leaf) (n : ℕ) where
  abbrev pub IsTurn : Turn → Type 0
  IsTurn Closed = (p.goals ≡ []) × (ls ≡ found now ∷ [])
  IsTurn (Ended here) = (ls ≡ blind_if here) × (0 < n)
  IsTurn Nothing = (m : ℕ) × (m < n) × IsOpenAgain old new base now p c ls m
  IsTurn (Stuck i) = (rest : List Leaf) × (ls ≡ stuck_at i ∷ rest) × (m : ℕ) × (m < n) × IsOpenAgain old new base now p c rest m
  IsTurn (Ahead next) =
      (front : List Leaf) × (rest : List Leaf) × (ls ≡ front ++ rest)
      × (k : ℕ) × (m : ℕ) × (k + m < n) × (way : Way) × (more : List (Cell (List ℕ))) × (q : Substitution ℕ (List ℕ))
      × IsOpen new base (now_after now way more q) next Start front k × IsOpenAgain old new base now p c rest m × IsLedAgain old new base now p c way more q next
