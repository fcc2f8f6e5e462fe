use Rattle.std.proofs.Common.{◌≡◌, ◌*◌, ◌+◌, length}
use Rattle.ab_store.specs.ab_types.specs.Entries.{kinds, constants}
use Rattle.ab_inference.specs.Assignments.{unseen}
use Rattle.ab_inference.proofs.Pathing.{Path}
use Rattle.ab_inference.proofs.assignments.settle.Given as goal

abbrev pub invariant-loop-top : goal.invariant-loop-top
invariant-loop-top l = record {
  path : Path l.fn.types l.types l.shapes l.initial.marks l.marks l.path.items;
  kinds : kinds l.types ≡ kinds l.fn.types;
  constants : constants l.types ≡ constants l.fn.types;
}

abbrev pub decreases-loop-top : goal.decreases-loop-top
decreases-loop-top l = 2 * unseen l.marks + length l.path.items
