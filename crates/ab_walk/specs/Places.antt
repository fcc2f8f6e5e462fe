-- A PLACE OF THE TREE on shared terms, and its leaves.
use Rattle.std.specs.Prelude.{ℕ, List, map, All}
use Rattle.ab_norm.specs.ab_store.specs.declared.node.TermId.{TermId}
use Rattle.ab_formulas.specs.Declarations.{signature_in}
use Rattle.ab_logic.specs.Worlds.{declarations_of}
use Rattle.ab_logic.specs.declared.world.World.{World}
use Rattle.ab_search_trees.specs.Goals.{Goal, Now}
use Rattle.ab_search_trees.specs.Tree.{Leaf}
use Rattle.ab_search_trees.proofs.Facts.{AllTasks}
use Rattle.ab_search_trees.proofs.Carried.{AreFlexible}
use Rattle.ab_search_trees.proofs.Walks.{Walked}
use Rattle.ab_next_ways.specs.ab_search_ways.specs.Answers.{HoldsValue}
use Rattle.ab_next_ways.specs.ab_search_ways.specs.GoalReadings.{goal_read, IsPlace}
use Rattle.ab_next_ways.specs.ab_search_ways.specs.declared.goal.Goal.{Goal as Kept}
use Rattle.ab_next_ways.specs.ab_search_ways.specs.declared.way.Place.{Place}

-- the goals, whose first hypotheses are the base
abbrev pub goals_read : World → List TermId → List Kept → List Goal
goals_read w base ks = map (goal_read w base) ks

-- the place is one of the tree, over these variables, its goals are formulas over them, and what its answer puts in is there
pub record IsSearched (w : World) (base : List TermId) (p : Place) (now : Now) : Type 0 where
  pub place : IsPlace w base p.flexible.items p.goals now (goals_read w base p.goals)
  pub flexible : AreFlexible now
  pub tasks : AllTasks (signature_in (declarations_of w)) now (goals_read w base p.goals)
  pub answer : All (HoldsValue w.types w.store) p.answer.items

-- THE PLACE HAS THE LEAVES, and so many turns lead through them
abbrev pub HasLeaves : World → List TermId → Place → List Leaf → ℕ → Type 0
HasLeaves w base p ls n = (now : Now) × IsSearched w base p now × Walked (declarations_of w) now (goals_read w base p.goals) ls n
