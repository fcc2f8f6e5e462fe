use Rattle.std.proofs.Common.{◌-◌, length}
use Rattle.ab_cert.specs.PendingParts.{pending_of}
use Rattle.ab_cert.proofs.Left.{IsLeft}
use Rattle.ab_cert.proofs.outline.check_text.Given as goal

abbrev pub invariant-parts : goal.invariant-parts
invariant-parts l = IsLeft l.bytes l.at (pending_of l.pending)

abbrev pub decreases-parts : goal.decreases-parts
decreases-parts l = length l.bytes - l.at
