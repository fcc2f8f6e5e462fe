use Rattle.std.proofs.Common.{◌≡◌, ◌≤◌, take, drop}
use Rattle.ab_norm.specs.NodeGrowth.{AddsTypedTerms}
use Rattle.ab_search_ways.specs.GoalsLeft.{IsResolved}
use Rattle.ab_search_ways.proofs.goals_left.add_touched.Given as goal

abbrev pub invariant-touched : goal.invariant-touched
invariant-touched g l = record {
  behind : l.left ≡ drop l._i l.goals;
  adds : AddsTypedTerms l.types l.fn.store l.store;
  resolved : IsResolved l.types l.fn.store l.store l.fn.list.items (take l._i l.goals) l.list.items;
  counted : l.fn.steps ≤ l.steps;
}
