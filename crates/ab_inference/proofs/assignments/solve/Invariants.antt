use Rattle.std.proofs.Common.{◌≡◌}
use Rattle.ab_store.specs.ab_types.specs.Entries.{kinds, constants}
use Rattle.ab_inference.proofs.Ending.{Walking}
use Rattle.ab_inference.proofs.assignments.solve.Given as goal

abbrev pub invariant-loop-i : goal.invariant-loop-i
invariant-loop-i l = record {
  walking : Walking l.fn.types l.types l.shapes l.marks.items l.i;
  kinds : kinds l.types ≡ kinds l.fn.types;
  constants : constants l.types ≡ constants l.fn.types;
}
