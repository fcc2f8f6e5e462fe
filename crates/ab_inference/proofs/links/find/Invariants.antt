use Rattle.std.proofs.Common.{◌≡◌, ◌≤◌, ◌<◌, length}
use Rattle.ab_store.specs.ab_types.specs.Entries.{Table}
use Rattle.ab_inference.specs.Solutions.{AreFormed, AreHeld, loose, Leads, Same, KeepsRoots}
use Rattle.ab_inference.proofs.Following.{Followed}
use Rattle.ab_inference.proofs.links.find.Given as goal

abbrev pub invariant-loop-shapes : goal.invariant-loop-shapes
invariant-loop-shapes l = Followed l.initial.shapes l.shapes l.i l.here

abbrev pub decreases-loop-shapes : goal.decreases-loop-shapes
decreases-loop-shapes l = l.here
