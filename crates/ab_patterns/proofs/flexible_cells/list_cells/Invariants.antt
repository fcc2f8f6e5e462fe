use Rattle.std.proofs.Common.{◌≡◌, take}
use Rattle.std.specs.HashMap.{get}
use Rattle.ab_patterns.specs.Flexible.{same_cell, listed_from}
use Rattle.ab_patterns.proofs.flexible_cells.list_cells.Given as goal

abbrev pub invariant-loop-at : goal.invariant-loop-at
invariant-loop-at l = l.cells.items ≡ listed_from (get same_cell l.places) 0 (take l.at l.row)
