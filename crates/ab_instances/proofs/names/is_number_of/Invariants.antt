use Rattle.std.proofs.Common.{◌≡◌, false, take}
use Rattle.ab_norm.specs.ab_types.specs.Entries.{Table}
use Rattle.ab_unifiers.specs.Choices as choices
use Rattle.ab_instances.specs.ListReadings.{names_read}
use Rattle.ab_instances.proofs.names.is_number_of.Given as goal

abbrev pub invariant-loop-a : goal.invariant-loop-a
invariant-loop-a l = (types : Table) → choices.is_number_of (names_read types (take l.a-index l.names)) l.number ≡ false
