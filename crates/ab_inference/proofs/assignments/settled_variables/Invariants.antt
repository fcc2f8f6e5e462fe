use Rattle.std.proofs.Common.{◌≡◌, ℕ, ◌<◌, length}
use Rattle.ab_inference.specs.declared.assignments.Mark.TheVariants.{Done}
use Rattle.ab_inference.specs.Assignments.{mark_at, settled_at}
use Rattle.ab_inference.proofs.assignments.settled_variables.Given as goal

abbrev pub invariant-loop-i : goal.invariant-loop-i
invariant-loop-i l = record {
  as_many : length l.found.items ≡ l.i;
  found : (k : ℕ) → k < l.i → mark_at l.marks k ≡ Done (settled_at l.found.items k);
}
