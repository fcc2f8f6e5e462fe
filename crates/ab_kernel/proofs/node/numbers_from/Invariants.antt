use Rattle.std.proofs.Common.{◌≡◌, ◌-◌}
use Rattle.ab_kernel.specs.Nodes.{numbers_up}
use Rattle.ab_kernel.proofs.node.numbers_from.Given as goal

abbrev pub invariant-loop-number : goal.invariant-loop-number
invariant-loop-number l = l.numbers.items ≡ numbers_up l.first (l.number - l.first)
