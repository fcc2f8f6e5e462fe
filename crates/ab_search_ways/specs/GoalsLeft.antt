-- What is left, in a store in which cells are bound. Public contracts don't speak of it.
use Rattle.std.specs.Prelude.{◌≡◌, List, [], ◌++◌, map, filter, is_none, All}
use Rattle.ab_term.specs.Terms.{Read}
use Rattle.ab_norm.specs.ab_types.specs.Entries.{Table}
use Rattle.ab_norm.specs.ab_store.specs.declared.node.CellId.{CellId}
use Rattle.ab_norm.specs.ab_store.specs.Trees.{Contents, tree_of}
use Rattle.ab_norm.specs.ab_store.specs.Reading.{reading, binding_of}
use Rattle.ab_search_ways.specs.GoalReadings.{goal_by, IsTypedGoal}
use Rattle.ab_search_ways.specs.declared.goal.Goal.{Goal}
use Rattle.ab_search_ways.specs.declared.way.Place.{Place}

-- the goals have the same constants, one against one
abbrev pub SameNames : List Goal → List Goal → Type 0
SameNames gs hs = map (λ (g : Goal). g.constants.items) gs ≡ map (λ (g : Goal). g.constants.items) hs

-- those of the cells that are bound to nothing
abbrev pub unbound_in : Contents → List CellId → List CellId
unbound_in store cs = filter (λ c. is_none (binding_of store c)) cs

-- these goals are added behind others, with what cells are bound to in their places
pub record IsResolved (types : Table) (old new : Contents) (before goals now : List Goal) : Type 0 where
  pub reads : (hs : List Read) → map (goal_by (tree_of types new) types hs) now
      ≡ map (goal_by (tree_of types old) types hs) before ++ map (goal_by (reading types old) types hs) goals
  pub typed : All (IsTypedGoal types new) now
  pub names : SameNames now (before ++ goals)

-- no binding changes what the goal says
abbrev pub IsUntouched : Table → Contents → Goal → Type 0
IsUntouched types store g = (before : List Read) → goal_by (reading types store) types before g ≡ goal_by (tree_of types store) types before g

-- of these cells and goals, this place is left
pub record IsLeft (types : Table) (old new : Contents) (cs : List CellId) (gs : List Goal) (p : Place) : Type 0 where
  pub cells : p.flexible.items ≡ unbound_in old cs
  pub goals : IsResolved types old new [] gs p.goals
