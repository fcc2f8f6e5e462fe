use Rattle.std.proofs.Common.{take}
use Rattle.ab_infer.proofs.Lookups.{LooksUp}
use Rattle.ab_infer.proofs.name_meanings.bound_at.Given as goal

abbrev pub invariant-loop-one : goal.invariant-loop-one
invariant-loop-one l = LooksUp l.one-index (take l.one-index l.bound) l.name l.found
