use Rattle.std.proofs.Common.{◌≡◌, map, take}
use Rattle.ab_infer.specs.Outcomes.{number_of}
use Rattle.ab_infer.proofs.ids.numbers.Given as goal

abbrev pub invariant-loop-name : goal.invariant-loop-name
invariant-loop-name l = l.found.items ≡ map number_of (take l.name-index l.names)
