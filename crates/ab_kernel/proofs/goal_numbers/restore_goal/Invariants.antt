use Rattle.std.proofs.Common.{◌≡◌, ◌+◌, ◌++◌, take, drop, vec_capacity}
use Rattle.ab_kernel.proofs.goal_numbers.restore_goal.Given as goal

abbrev pub invariant-loop : goal.invariant-loop
invariant-loop l = record {
  items : l.numbers.items ≡ take l.at l.fn.numbers.items ++ drop (l.at + l.counter) l.fn.numbers.items;
  capacity : vec_capacity l.numbers ≡ vec_capacity l.fn.numbers;
}
