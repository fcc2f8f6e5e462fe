use Rattle.std.proofs.Common.{◌≡◌, ◌++◌, take}
use Rattle.ab_search_ways.specs.GoalsLeft.{unbound_in}
use Rattle.ab_search_ways.proofs.goals_left.add_unbound.Given as goal

abbrev pub invariant-loop-cell : goal.invariant-loop-cell
invariant-loop-cell l = l.kept.items ≡ l.fn.kept.items ++ unbound_in l.store (take l.cell-index l.cells)
