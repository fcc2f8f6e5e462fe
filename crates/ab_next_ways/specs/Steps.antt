-- ONE STEP on the row of ways from a goal. Public contracts don't speak of it.
use Rattle.std.specs.Prelude.{◌≡◌, ℕ, ◌+◌, List, [], ◌∷◌, ◌++◌, Contains, Option, Some, None, codes}
use Rattle.ab_norm.specs.ab_store.specs.declared.node.TermId.{TermId}
use Rattle.ab_norm.specs.ab_types.specs.Entries.{Table}
use Rattle.ab_unifiers.specs.Unification.{apart, Solves}
use Rattle.ab_formulas.specs.Declarations.{Declarations}
use Rattle.ab_logic.specs.Worlds.{declarations_of}
use Rattle.ab_logic.specs.declared.world.World.{World}
use Rattle.ab_search_trees.specs.Goals as tree
use Rattle.ab_search_trees.specs.Goals.{Now}
use Rattle.ab_search_trees.specs.Ways as trees
use Rattle.ab_search_trees.specs.Tree.{problem_of}
use Rattle.ab_search_ways.specs.MadeWays.{IsMade}
use Rattle.ab_search_ways.specs.declared.way.Way.{Way}
use Rattle.ab_next_ways.specs.Cursors.{AreLeft, IsBehind}
use Rattle.ab_next_ways.specs.declared.cursor.Cursor.{Cursor}
use Rattle.ab_next_ways.specs.declared.cursor.Cursor.TheVariants.{Choice, Rule, End}
use Rattle.ab_next_ways.specs.declared.next_ways.Step.{Step}
use Rattle.ab_next_ways.specs.declared.next_ways.Step.TheVariants.{Made, Passed, Ended}

-- the way, or that none stood there
abbrev pub step_of : Option Way → Step
step_of (Some way) = Made way
step_of None = Passed

-- where to go from the choice, or the rule, of this number, by which this way was made, or none is
abbrev pub behind_choice : Option Way → ℕ → Cursor
behind_choice (Some way) k = Choice (k + 1)
behind_choice None k = Rule 0

abbrev pub behind_rule : Option Way → ℕ → Cursor
behind_rule (Some way) k = Rule (k + 1)
behind_rule None k = End

-- of the ways left some are passed that are apart, and then: the next is made; or none is; or there is none
module _ (v : World) (base : List TermId) (now : Now) (g : tree.Goal) (ws : List trees.Way) (next : Cursor) where
  abbrev pub AreApart : List trees.Way → Type 0
  AreApart passed = (way : trees.Way) → Contains passed way → Solves (codes "x") (problem_of way) apart

  -- some are passed that are apart
  abbrev pub IsPassed : Declarations → Table → Type 0
  IsPassed D types = (passed : List trees.Way) × (rest : List trees.Way) × (ws ≡ passed ++ rest) × AreApart passed × AreLeft D now g types next rest

  -- the next is made, and the cursor tells which it is
  abbrev pub IsNextWay : Declarations → Way → Type 0
  IsNextWay D made = (way : trees.Way) × (rest : List trees.Way) × (ws ≡ way ∷ rest) × IsMade v base way made × AreLeft D now g v.types next rest × IsBehind D now g next way

  abbrev pub IsStep : Step → Type 0
  IsStep (Made made) = IsNextWay (declarations_of v) made
  IsStep Passed = IsPassed (declarations_of v) v.types
  IsStep Ended = ws ≡ []
