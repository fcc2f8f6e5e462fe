use Rattle.std.proofs.Common.{◌≡◌, ◌≤◌, map, take}
use Rattle.ab_theory.specs.Derivations.{goals_admitted}
use Rattle.ab_kernel.specs.Debts.{debt_of}
use Rattle.ab_kernel.proofs.debt.count_gaps.Given as goal

abbrev pub invariant-loop-debt : goal.invariant-loop-debt
invariant-loop-debt l = record {
  counted : l.count ≡ goals_admitted (map debt_of (take l.debt-index l.debts));
  within : l.count ≤ l.debt-index;
}
