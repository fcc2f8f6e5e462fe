use Rattle.std.proofs.Common.{◌≡◌, ◌+◌, ◌-◌, length}
use Rattle.ab_norm.specs.ab_types.specs.Entries.{Table}
use Rattle.ab_unifiers.specs.Choices as choices
use Rattle.ab_instances.specs.ListReadings.{names_read}
use Rattle.ab_instances.proofs.names.new_constant.Given as goal

abbrev pub invariant-loop-tried : goal.invariant-loop-tried
invariant-loop-tried l = (types : Table) → choices.free_number (length l.held) 1 (names_read types l.held) ≡ choices.free_number (length l.held - l.tried) (l.tried + 1) (names_read types l.held)
