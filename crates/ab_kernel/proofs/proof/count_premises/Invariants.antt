use Rattle.std.proofs.Common.{◌≡◌, ◌+◌}
use Rattle.ab_kernel.proofs.proof.count_premises.Given as goal

abbrev pub invariant-loop : goal.invariant-loop
invariant-loop g l = l.steps ≡ l.fn.steps + l.counter
