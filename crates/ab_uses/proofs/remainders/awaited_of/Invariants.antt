use Rattle.std.proofs.Common.{◌≡◌, take}
use Rattle.ab_uses.specs.UseSolutions.{missing}
use Rattle.ab_uses.proofs.remainders.awaited_of.Given as goal

abbrev pub invariant-loop-place : goal.invariant-loop-place
invariant-loop-place l = l.list.items ≡ missing (take l.place l.hypotheses) l.antecedents
