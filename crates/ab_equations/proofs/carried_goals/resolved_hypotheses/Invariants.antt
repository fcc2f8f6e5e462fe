use Rattle.std.proofs.Common.{◌≤◌}
use Rattle.ab_equations.proofs.Resolving.{Resolved}
use Rattle.ab_equations.proofs.carried_goals.resolved_hypotheses.Given as goal

abbrev pub invariant-loop-hypothesis : goal.invariant-loop-hypothesis
invariant-loop-hypothesis g l = record {
  made : Resolved l.types l.fn.store l.store l.hypotheses l.hypothesis-index l.resolved.items;
  counted : l.fn.steps ≤ l.steps;
}
