use Rattle.std.proofs.Common.{take}
use Rattle.ab_rules.specs.UsedNumbers.{Gains, Excluded}
use Rattle.ab_rules.proofs.nabla_constants.exclude.Given as goal

abbrev pub invariant-loop-name : goal.invariant-loop-name
invariant-loop-name l = Gains l.fn.numbers.items l.numbers.items (Excluded l.all l.ty (take l.name-index l.names))
