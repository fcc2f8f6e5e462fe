use Rattle.std.proofs.Common.{◌≡◌, false, take}
use Rattle.ab_norm.specs.Nominals.{nominal_of}
use Rattle.ab_unifiers.specs.Choices as choices
use Rattle.ab_instances.specs.ListReadings.{names_read}
use Rattle.ab_instances.proofs.names.is_in.Given as goal

abbrev pub invariant-loop-b : goal.invariant-loop-b
invariant-loop-b l = choices.is_in (names_read l.types (take l.b-index l.names)) (nominal_of l.types l.a) ≡ false
