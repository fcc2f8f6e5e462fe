use Rattle.std.proofs.Common.{◌≡◌, length}
use Rattle.ab_cert.specs.PendingParts.{pending_of}
use Rattle.ab_cert.proofs.part_stack.Pending.settle.Given as goal

abbrev pub invariant-below : goal.invariant-below
invariant-below l = pending_of l.self ≡ pending_of l.fn.self

abbrev pub decreases-below : goal.decreases-below
decreases-below l = length l.self.below.items
