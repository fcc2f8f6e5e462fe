use Rattle.std.proofs.Common.{◌≡◌, ◌+◌, ◌-◌, ◌++◌, take, drop, vec_capacity}
use Rattle.ab_kernel.specs.Layout.{numbers_down}
use Rattle.ab_kernel.proofs.goal_numbers.replace_goal.Given as goal

abbrev pub invariant-loop-number : goal.invariant-loop-number
invariant-loop-number l = record {
  items : l.numbers.items ≡ take l.at l.fn.numbers.items ++ (numbers_down l.first (l.number - l.first) ++ drop (l.at + 1) l.fn.numbers.items);
  capacity : vec_capacity l.numbers ≡ vec_capacity l.fn.numbers;
}
