use Rattle.std.proofs.Common.{◌≤◌}
use Rattle.ab_unify.specs.StoreChanges.{Grows}
use Rattle.ab_search_paths.proofs.final_values.bind_answers.Given as goal

abbrev pub invariant-loop-frame : goal.invariant-loop-frame
invariant-loop-frame g l = record {
  grows : Grows l.types l.fn.store l.types l.store;
  counted : l.fn.steps ≤ l.steps;
}
