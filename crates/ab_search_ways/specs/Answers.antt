-- WHAT A WAY PUTS IN for its cells, once its sides are made equal; and what places of the tree name.
use Rattle.std.specs.Prelude.{◌≡◌, List, [], map, All, IfSome}
use Rattle.ab_norm.specs.ab_types.specs.Entries.{Table}
use Rattle.ab_norm.specs.ab_types.specs.Ids.{type_of}
use Rattle.ab_norm.specs.ab_store.specs.declared.node.CellId.{CellId}
use Rattle.ab_norm.specs.ab_store.specs.Trees.{Contents, HoldsCell, cell_of}
use Rattle.ab_norm.specs.ab_store.specs.Naming.{IsTerm}
use Rattle.ab_norm.specs.Nominals.{HoldsNominal}
use Rattle.ab_search_ways.specs.GoalReadings.{IsTypedGoal}
use Rattle.ab_search_ways.specs.declared.goal.Goal.{Goal}
use Rattle.ab_search_ways.specs.declared.way.Value.{Value}
use Rattle.ab_search_ways.specs.declared.way.Place.{Place}
use Rattle.ab_search_ways.specs.declared.way.Tried.{Tried}
use Rattle.ab_search_ways.specs.declared.way.Tried.TheVariants.{Ahead}

-- the cell is there, and what is put in for it, if anything, is a term of its type
pub record HoldsValue (types : Table) (store : Contents) (v : Value) : Type 0 where
  pub cell : HoldsCell store v.cell
  pub term : IfSome v.term (λ t. IsTerm types store [] t (type_of types (cell_of store v.cell).ty))

-- THE ANSWER FOR THE CELLS: a value for each, in their order
pub record IsAnswerFor (types : Table) (store : Contents) (cells : List CellId) (vs : List Value) : Type 0 where
  pub each : map (λ (v : Value). v.cell) vs ≡ cells
  pub held : All (HoldsValue types store) vs

-- where the way leads to a place, that holds its answer for these cells
abbrev pub IsAnswered : Table → Contents → List CellId → Tried → Type 0
IsAnswered types store cells (Ahead p) = IsAnswerFor types store cells p.answer.items
IsAnswered types store cells tried = Unit {0}

-- a goal says formulas, and its constants are there
pub record IsNamedGoal (types : Table) (store : Contents) (g : Goal) : Type 0 where
  pub typed : IsTypedGoal types store g
  pub constants : All (HoldsNominal types) g.constants.items

-- WHAT A PLACE NAMES IS THERE: its goals say formulas, its cells are there, and its answer's terms are of the types of their cells
pub record HoldsPlace (types : Table) (store : Contents) (p : Place) : Type 0 where
  pub goals : All (IsNamedGoal types store) p.goals
  pub flexible : All (HoldsCell store) p.flexible.items
  pub answer : All (HoldsValue types store) p.answer.items
