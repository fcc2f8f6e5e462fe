use Rattle.std.proofs.Common.{◌≡◌, ◌++◌, ◌-◌, length, drop}
use Rattle.ab_cert.specs.PendingParts.{pending_of}
use Rattle.ab_cert.proofs.part_stack.Pending.push_all.Given as goal

abbrev pub invariant-parts : goal.invariant-parts
invariant-parts l = pending_of l.self ≡ drop (length l.parts - l.i) l.parts ++ pending_of l.fn.self
