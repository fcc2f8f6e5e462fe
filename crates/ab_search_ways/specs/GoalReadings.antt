-- What a goal of a search and a place of its tree stand for. At a place no cell is bound: what an answer puts in is copied into
-- the goals that are left.
use Rattle.std.specs.Prelude.{◌≡◌, ◌≢◌, ℕ, List, [], ◌++◌, map, All, AllPairs, Contains}
use Rattle.ab_term.specs.Types.{prop}
use Rattle.ab_term.specs.Terms.{Variable, Read}
use Rattle.ab_term.specs.Variables.{variables}
use Rattle.ab_norm.specs.ab_types.specs.Entries.{Table}
use Rattle.ab_norm.specs.ab_store.specs.declared.node.CellId.{CellId}
use Rattle.ab_norm.specs.ab_store.specs.declared.node.TermId.{TermId}
use Rattle.ab_norm.specs.ab_store.specs.Naming.{IsTerm}
use Rattle.ab_norm.specs.ab_store.specs.Trees.{Contents}
use Rattle.ab_norm.specs.Nominals.{HoldsNominal}
use Rattle.ab_unify.specs.Problem.{cells_read, variables_read}
use Rattle.ab_unify.specs.StoreChanges.{IsFree}
use Rattle.ab_instances.specs.ListReadings.{names_read}
use Rattle.ab_logic.specs.Worlds.{Holds, read}
use Rattle.ab_logic.specs.declared.world.World.{World}
use Rattle.ab_search_trees.specs.Goals as tree
use Rattle.ab_search_trees.specs.Goals.{Now}
use Rattle.ab_search_ways.specs.declared.goal.Goal.{Goal}

-- the goal behind these hypotheses, where ids read so
abbrev pub goal_by : (TermId → Read) → Table → List Read → Goal → tree.Goal
goal_by reads types before g = record {
  hypotheses = before ++ map reads g.added.items;
  conclusion = reads g.conclusion;
  depth = g.depth;
  constants = names_read types g.constants.items;
  untouched = g.untouched;
  layers = g.layers;
  member_first = g.member_first;
}

-- THE GOAL, whose first hypotheses are those of the sequent
abbrev pub goal_read : World → List TermId → Goal → tree.Goal
goal_read w base = goal_by (read w) w.types (map (read w) base)

-- what a goal names is there, and its constants are different
pub record HoldsGoal (w : World) (g : Goal) : Type 0 where
  pub added : All (Holds w) g.added.items
  pub conclusion : Holds w g.conclusion
  pub constants : All (HoldsNominal w.types) g.constants.items
  pub once : AllPairs (λ a b. a ≢ b) (names_read w.types g.constants.items)

-- a formula
abbrev pub IsFormulaIn : World → TermId → Type 0
IsFormulaIn w t = IsTerm w.types w.store [] t prop

-- what a goal says are formulas
pub record IsTypedGoal (types : Table) (store : Contents) (g : Goal) : Type 0 where
  pub added : All (λ t. IsTerm types store [] t prop) g.added.items
  pub conclusion : IsTerm types store [] g.conclusion prop

-- THE WORLD STANDS FOR THE VARIABLES at a place of the tree: its cells are all that were ever made, and the listed ones, none of
-- which is bound, those that may be replaced. What was put in, and which constants are held, no part of the world tells.
pub record StandsFor (w : World) (flexible : List CellId) (now : Now) : Type 0 where
  pub cells : cells_read w.types w.store ≡ now.cells
  pub replaced : variables_read w.types w.store flexible ≡ now.flexible
  pub free : All (IsFree w.store) flexible

-- the formula stays under every answer: no variable of it may be replaced
pub record IsAside (w : World) (flexible : List CellId) (t : TermId) : Type 0 where
  pub formula : IsFormulaIn w t
  pub apart : (y : Variable ℕ) → Contains (variables (read w t)) y → ¬ Contains flexible (record { 0 = y.name })

-- A PLACE OF THE TREE: these goals are left, over these variables
pub record IsPlace (w : World) (base : List TermId) (flexible : List CellId) (goals : List Goal) (now : Now) (gs : List tree.Goal) : Type 0 where
  pub variables : StandsFor w flexible now
  pub aside : All (IsAside w flexible) base
  pub reads : map (goal_read w base) goals ≡ gs
  pub held : All (HoldsGoal w) goals
