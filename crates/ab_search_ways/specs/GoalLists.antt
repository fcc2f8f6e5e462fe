-- The goals of a list whose ends are shared, one after another.
use Rattle.std.specs.Prelude.{List, [], ◌∷◌, Option, Some, None}
use Rattle.std.specs.Global.{Global}
use Rattle.std.specs.declared.rc.Rc.{Rc}
use Rattle.ab_search_ways.specs.declared.goal.Goal.{Goal}
use Rattle.ab_search_ways.specs.declared.goal_lists.Linked.{Linked}

abbrev pub listed : Option (Rc Linked Global) → List Goal
listed None = []
listed (Some link) = link.value.goal ∷ link.value.behind
