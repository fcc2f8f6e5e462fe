-- THE PATH OF A WALK: the places on the way to an answer, what they name, and which way leads from each to the next.
use Rattle.std.specs.Prelude.{◌≡◌, ℕ, List, [], ◌∷◌, ◌++◌, map, codes, All, Contains}
use Rattle.ab_term.specs.Variables.{Substitution}
use Rattle.ab_norm.specs.ab_types.specs.Entries.{Table}
use Rattle.ab_norm.specs.ab_store.specs.Trees.{Contents}
use Rattle.ab_norm.specs.ab_store.specs.declared.node.TermId.{TermId}
use Rattle.ab_unifiers.specs.Replacements.{Cell}
use Rattle.ab_unifiers.specs.Unification.{unified, Solves}
use Rattle.ab_unify.specs.Problem.{variables_read}
use Rattle.ab_formulas.specs.Declarations.{Declarations}
use Rattle.ab_logic.specs.Worlds.{declarations_of}
use Rattle.ab_logic.specs.declared.world.World.{World}
use Rattle.ab_search_trees.specs.Goals.{Goal, Now, goal_under}
use Rattle.ab_search_trees.specs.Ways.{Way, ways}
use Rattle.ab_search_trees.specs.Tree.{problem_of, Serve, now_after}
use Rattle.ab_next_ways.specs.ab_search_ways.specs.Answers.{HoldsPlace}
use Rattle.ab_next_ways.specs.ab_search_ways.specs.declared.way.Place.{Place}
use Rattle.ab_next_ways.specs.ab_search_ways.specs.declared.way.Value.{Value}
use Rattle.ab_next_ways.specs.Cursors.{IsBehind}
use Rattle.ab_next_ways.specs.declared.cursor.Cursor.{Cursor}
use Rattle.ab_walk.specs.Places.{goals_read}
use Rattle.ab_walk.specs.declared.frames.Frame.{Frame}
use Rattle.ab_walk.specs.declared.walk.Told.{Told}
use Rattle.ab_walk.specs.declared.walk.Told.TheVariants.{Found, Not}

-- WHAT THE PLACES OF THE PATH NAME IS THERE
abbrev pub HoldsPath : Table → Contents → List Frame → Type 0
HoldsPath types store path = All (λ (f : Frame). HoldsPlace types store f.place) path

-- where the goals were closed
abbrev pub WhereFound : Told → Type 0 → Type 0
WhereFound Found P = P
WhereFound (Not stuck unseen) P = Unit {0}

-- THE WAY WAS TAKEN from the goal: it is one of the goal's ways, the one before the cursor; its sides were made equal, and its marks serve
pub record IsTaken (D : Declarations) (now : Now) (g : Goal) (c : Cursor) (way : Way) (more : List (Cell (List ℕ))) (q : Substitution ℕ (List ℕ)) : Type 0 where
  pub among : Contains (ways D now g) way
  pub behind : IsBehind D now g c way
  pub solved : Solves (codes "x") (problem_of way) (unified more q)
  pub serves : Serve way

-- the place has a value for each variable that the way may replace
abbrev pub HasValuesFor : World → Way → Place → Type 0
HasValuesFor w way p = variables_read w.types w.store (map (λ (v : Value). v.cell) p.answer.items) ≡ way.flexible

-- THE PLACE STANDS IN THE TREE where these goals are left, over these variables
pub record StandsAt (w : World) (base : List TermId) (p : Place) (now : Now) (gs : List Goal) : Type 0 where
  pub goals : goals_read w base p.goals ≡ gs
  pub flexible : variables_read w.types w.store p.flexible.items ≡ now.flexible

-- THE PLACES ARE THE WAY from where these goals are left to an answer: from each one way was taken to the next, and at the last
-- no goal is left
pub data AreWay (w : World) (base : List TermId) (last : Now) : Now → List Goal → List Frame → Type 0 where
  at_answer : (f : Frame) → StandsAt w base f.place last [] → AreWay w base last last [] (f ∷ [])
  by_way : {now : Now} {g : Goal} {gs : List Goal} {fs : List Frame} (f next : Frame) (way : Way) (more : List (Cell (List ℕ))) (q : Substitution ℕ (List ℕ))
      → StandsAt w base f.place now (g ∷ gs) → IsTaken (declarations_of w) now g f.cursor way more q → HasValuesFor w way next.place
      → AreWay w base last (now_after now way more q) (map (goal_under q) (way.goals ++ gs)) (next ∷ fs) → AreWay w base last now (g ∷ gs) (f ∷ next ∷ fs)

-- to some answer
abbrev pub LeadToAnswer : World → List TermId → Now → List Goal → List Frame → Type 0
LeadToAnswer w base now gs fs = (last : Now) × AreWay w base last now gs fs
