-- A way to go on is made; and what comes of it. All kinds of ways share this.
use Rattle.std.specs.Prelude.{◌≡◌, ◌↔◌, ℕ, List, ◌++◌, map, IsTrue, All, slice_get, Option, Some, None, codes}
use Rattle.ab_term.specs.Variables.{Substitution}
use Rattle.ab_norm.specs.ab_store.specs.declared.node.CellId.{CellId}
use Rattle.ab_norm.specs.ab_store.specs.declared.node.TermId.{TermId}
use Rattle.ab_norm.specs.ab_store.specs.declared.node.Equation.{Equation}
use Rattle.ab_unifiers.specs.Replacements.{Cell}
use Rattle.ab_unifiers.specs.Unification.{unified, apart, stuck, Solves}
use Rattle.ab_unify.specs.Problem.{cells_read, variables_read, equations_read}
use Rattle.ab_unify.specs.StoreChanges.{IsFree}
use Rattle.ab_unify.specs.UnifyAnswers.{IsTypedPair, HasSolution}
use Rattle.ab_logic.specs.Worlds.{Holds}
use Rattle.ab_logic.specs.declared.world.World.{World}
use Rattle.ab_search_trees.specs.Goals as tree
use Rattle.ab_search_trees.specs.Goals.{Now, goal_under}
use Rattle.ab_search_trees.specs.Ways as trees
use Rattle.ab_search_trees.specs.Tree.{problem_of, Serve, now_after}
use Rattle.ab_search_ways.specs.GoalReadings.{goal_read, HoldsGoal, IsTypedGoal, IsAside, StandsFor, IsPlace}
use Rattle.ab_search_ways.specs.declared.goal.Goal.{Goal}
use Rattle.ab_search_ways.specs.declared.way.Way.{Way}
use Rattle.ab_search_ways.specs.declared.way.Tried.{Tried}
use Rattle.ab_search_ways.specs.declared.way.Tried.TheVariants.{Apart, Stuck, Refused, Ahead}

-- what a way names is there, and no cell that it may bind is bound
pub record HoldsWay (w : World) (made : Way) : Type 0 where
  pub free : All (IsFree w.store) made.flexible.items
  pub sides : All (λ (e : Equation). Holds w e.left × Holds w e.right) made.equations.items
  pub goals : All (HoldsGoal w) made.goals.items

-- its sides are terms of one type, and its goals say formulas
pub record IsTypedWay (w : World) (made : Way) : Type 0 where
  pub sides : All (IsTypedPair w.types w.store) made.equations.items
  pub goals : All (IsTypedGoal w.types w.store) made.goals.items

module _ (w : World) (base : List TermId) where
  -- THE WAY IS MADE. No part of it tells which constants the way takes.
  pub record IsMade (way : trees.Way) (made : Way) : Type 0 where
    pub held : HoldsWay w made
    pub aside : All (IsAside w made.flexible.items) base
    pub cells : cells_read w.types w.store ≡ way.cells
    pub replaced : variables_read w.types w.store made.flexible.items ≡ way.flexible
    pub equations : equations_read w.types w.store made.equations.items ≡ way.equations
    pub serves : IsTrue made.serves ↔ Serve way
    pub goals : map (goal_read w base) made.goals.items ≡ way.goals

  -- of these ways the one of this number, if there are so many, is made
  abbrev pub IsWayAt : List trees.Way → ℕ → Option Way → Type 0
  IsWayAt ways number None = slice_get ways number ≡ None
  IsWayAt ways number (Some made) = (way : trees.Way) × (slice_get ways number ≡ Some way) × IsMade way made

  -- THE WAY WAS TRIED, with these goals behind: its sides are apart; or this equation is outside the patterns; or they are made
  -- equal, and its marks don't serve; or this is the place to which it leads
  abbrev pub IsTried : Now → trees.Way → List tree.Goal → Tried → Type 0
  IsTried now way gs Apart = Solves (codes "x") (problem_of way) apart
  IsTried now way gs (Stuck i) = Solves (codes "x") (problem_of way) (stuck i)
  IsTried now way gs Refused = HasSolution (problem_of way) × (¬ Serve way)
  IsTried now way gs (Ahead p) =
      Serve way × (more : List (Cell (List ℕ))) × (q : Substitution ℕ (List ℕ)) × Solves (codes "x") (problem_of way) (unified more q)
      × IsPlace w base p.flexible.items p.goals (now_after now way more q) (map (goal_under q) (way.goals ++ gs))

-- FROM A GOAL of the first world the way is made in the second, whatever base it stands on
abbrev pub MakesWay : World → List CellId → Goal → (Now → tree.Goal → trees.Way) → World → Way → Type 0
MakesWay w flexible g way v made = (base : List TermId) (now : Now) → All (IsAside w flexible) base → StandsFor w flexible now → IsMade v base (way now (goal_read w base g)) made

-- the same of the way of this number, if there are so many
abbrev pub MakesWayAt : World → List CellId → Goal → (Now → tree.Goal → List trees.Way) → ℕ → World → Option Way → Type 0
MakesWayAt w flexible g ways number v o = (base : List TermId) (now : Now) → All (IsAside w flexible) base → StandsFor w flexible now → IsWayAt v base (ways now (goal_read w base g)) number o
