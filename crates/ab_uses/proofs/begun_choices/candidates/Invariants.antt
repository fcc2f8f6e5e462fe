use Rattle.std.proofs.Common.{◌≡◌, take}
use Rattle.ab_uses.proofs.Branches.{joined}
use Rattle.ab_uses.proofs.begun_choices.candidates.Given as goal

abbrev pub invariant-loop-names : goal.invariant-loop-names
invariant-loop-names l = l.list.items ≡ joined (take l.names-index l.names-items)
