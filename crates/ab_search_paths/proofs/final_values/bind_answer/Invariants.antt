use Rattle.std.proofs.Common.{◌≤◌}
use Rattle.ab_unify.specs.StoreChanges.{Grows}
use Rattle.ab_search_paths.proofs.final_values.bind_answer.Given as goal

abbrev pub invariant-loop-value : goal.invariant-loop-value
invariant-loop-value g l = record {
  grows : Grows l.types l.fn.store l.types l.store;
  counted : l.fn.steps ≤ l.steps;
}
