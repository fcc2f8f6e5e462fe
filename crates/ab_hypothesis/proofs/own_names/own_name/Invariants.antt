use Rattle.std.specs.Prelude.{codes, Contains}
use Rattle.std.proofs.Common.{ℕ, ◌<◌, ◌≤◌, ◌++◌, decimal}
use Rattle.ab_equations.specs.Labels.{label_of}
use Rattle.ab_hypothesis.proofs.Naming.{taken_by}
use Rattle.ab_hypothesis.proofs.own_names.own_name.Given as goal

abbrev pub invariant-loop-number : goal.invariant-loop-number
invariant-loop-number l = (m : ℕ) → 1 ≤ m → m < l.number → Contains (taken_by (label_of l.label) l.sequent.hypotheses) (codes "_" ++ decimal m)
