use Rattle.std.proofs.Common.{◌≤◌, ◌++◌, [], codes}
use Rattle.std.specs.Prelude.{All}
use Rattle.ab_patterns.specs.ab_unifiers.proofs.Ending.{steps_left}
use Rattle.ab_unify.specs.StoreChanges.{Grows, IsFree}
use Rattle.ab_unify.specs.Outcome.{IsTypedEquation}
use Rattle.ab_unify.specs.States.{IsAtRest, state_of}
use Rattle.ab_unify.proofs.Ran.{IsRun}
use Rattle.ab_unify.proofs.runs.run.Given as goal

abbrev pub decreases-steps : goal.decreases-steps
decreases-steps g l = steps_left (codes "x") (state_of l.types l.store (l.waiting.items ++ l.queue.items) l.flexible.items [])

abbrev pub invariant-steps : goal.invariant-steps
invariant-steps g l = record {
  grows : Grows l.fn.types l.fn.store l.types l.store;
  counted : l.fn.steps ≤ l.steps;
  free : All (IsFree l.store) l.flexible.items;
  equations : All (IsTypedEquation l.types l.store) (l.waiting.items ++ l.queue.items);
  rest : All (IsAtRest l.types l.store l.flexible.items) l.waiting.items;
  run : IsRun l.fn.types l.fn.store l.fn.flexible.items (l.fn.waiting.items ++ l.fn.queue.items) l.types l.store l.flexible.items (l.waiting.items ++ l.queue.items) l.fn.steps l.steps;
}
