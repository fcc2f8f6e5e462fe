use Rattle.std.proofs.Common.{◌≡◌, ℕ, ◌<◌, ◌≤◌, drop, length, get_or}
use Rattle.ab_norm.specs.ab_types.specs.Entries.{Table}
use Rattle.ab_search_ways.specs.GoalsLeft.{IsUntouched}
use Rattle.ab_search_ways.specs.declared.goal.Goal.{Goal}
use Rattle.ab_search_ways.proofs.goals_left.count_touched.Given as goal

abbrev pub invariant-loop-goal : goal.invariant-loop-goal
invariant-loop-goal l = record {
  behind : l.left ≡ drop l.number l.goals;
  within : l.number ≤ length l.goals;
  counted : l.count ≤ l.number;
  between : (types : Table) (i : ℕ) (d : Goal) → l.count ≤ i → i < l.number → IsUntouched types l.store (get_or l.goals i d);
}
