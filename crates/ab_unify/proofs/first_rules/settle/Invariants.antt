use Rattle.std.proofs.Common.{◌≤◌, ◌++◌, length}
use Rattle.ab_unify.proofs.Searching.{IsSearch}
use Rattle.ab_unify.proofs.first_rules.settle.Given as goal

abbrev pub decreases-equations : goal.decreases-equations
decreases-equations g l = length l.queue.items

abbrev pub invariant-equations : goal.invariant-equations
invariant-equations g l = record {
  search : IsSearch l.fn.types l.fn.store l.fn.flexible.items (l.fn.waiting.items ++ l.fn.queue.items) l.types l.store l.flexible.items l.waiting.items l.queue.items;
  steps : l.fn.steps ≤ l.steps;
}
