use Rattle.std.proofs.Common.{◌≡◌, take}
use Rattle.std.specs.List.{All}
use Rattle.ab_norm.specs.Nominals.{nominal_of, HoldsNominal}
use Rattle.ab_unifiers.specs.Choices as choices
use Rattle.ab_instances.specs.ListReadings.{names_read}
use Rattle.ab_instances.proofs.names.others.Given as goal

abbrev pub invariant-loop-b : goal.invariant-loop-b
invariant-loop-b l = record {
  list : names_read l.types l.list.items ≡ choices.others (nominal_of l.types l.a) (names_read l.types (take l.b-index l.names));
  held : All (HoldsNominal l.types) l.list.items;
}
